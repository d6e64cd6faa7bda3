-- `turn::finish` meets its contract: what the two calls ensure, the sizes being those of what is lent.
use Rattle.turn.proofs.finish.Goals as goal

pub end-next-requires : goal.end-next-requires
end-next-requires c = record { ready = c.requires.ready; within = c.requires.within; fits_ram = c.requires.fits_ram }

pub applied-left-requires : goal.applied-left-requires
applied-left-requires c = record { within = c.requires.within; told = c.requires.told }

pub returns : goal.returns
returns c =
    record {
      apply_is = rw (← c.sizes-lent.ensures) c.applied-left.ensures;
      journal_after = c.end-next.ensures.journal_after;
      index_after = c.end-next.ensures.index_after;
    }
