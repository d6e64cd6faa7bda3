-- What an instruction asks of an address. LWL, LWR, SWL, SWR are Part: neither aligned nor LW/SW.
use Rattle.std.specs.Prelude.{Bool, true, false, ℕ}
use Rattle.reach.specs.declared.access.Kind.{Kind}
use Rattle.reach.specs.declared.access.Kind.TheVariants.{Fetch, Load, Store}
use Rattle.reach.specs.declared.access.Width.{Width}
use Rattle.reach.specs.declared.access.Width.TheVariants.{One, Two, Four, Part}

abbrev pub is_store : Kind → Bool
is_store Fetch = false
is_store Load = false
is_store Store = true

abbrev pub is_fetch : Kind → Bool
is_fetch Fetch = true
is_fetch Load = false
is_fetch Store = false

abbrev pub is_word : Width → Bool
is_word One = false
is_word Two = false
is_word Four = true
is_word Part = false

-- what an address is to be a multiple of
abbrev pub alignment : Width → ℕ
alignment One = 1
alignment Two = 2
alignment Four = 4
alignment Part = 1
