-- `tlb::probe` meets its contract: it is `probed` of what `lowest` finds.
use mathlib.Core.Path.{◌≡◌, refl, ap, ◌∙◌}
use Rattle.tlb.specs.Search.{found_in, lowest_of}
use Rattle.tlb.specs.Index.{probed_of, probed_at}
use Rattle.std.specs.Prelude.{Option, Some, None}
use Rattle.tlb.specs.declared.Hit.{Hit}
use Rattle.tlb.proofs.probe.Goals as goal

probed-lowest : (f : Option Hit) → probed_at (lowest_of f) ≡ probed_of f
probed-lowest (Some hit) = refl
probed-lowest None = refl

pub returns : goal.returns
returns c = c.probed.ensures ∙ ap probed_at c.lowest.ensures ∙ probed-lowest (found_in c.args.sought c.args.t)
