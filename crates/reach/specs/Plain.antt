-- The plain access: VMc (bit 24 of Status) is off, the address is aligned, and RAM holds it. Its answer needs neither the table nor the map
-- (`plain-reach`; under CP0's registers `plain-lands` of intend).
use Rattle.std.specs.Prelude.{Bool, ◌&&◌, not, ℕ}
use Rattle.word.specs.Map.{bit}
use Rattle.board.specs.Places.{ram_base, spans}
use Rattle.reach.specs.Check.{aligned_of}
use Rattle.reach.specs.declared.access.Width.{Width}

-- ---- aids to proofs: nothing that a reader must believe

-- ram is RAM's length
unfoldable pub plain_of : ℕ → Width → ℕ → ℕ → Bool
plain_of status width ram va = not (bit 24 status) && (aligned_of width va && spans ram_base ram va)
