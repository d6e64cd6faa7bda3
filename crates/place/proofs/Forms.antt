-- All forms read a line only as far as they go.
use mathlib.Core.Path.{◌≡◌, refl}
use mathlib.Core.Bool.{true, false}
use mathlib.Core.List.{List, ◌++◌}
use Prim.Native.Nat.{ℕ, ◌<◌}
use lib.ListN.{length}
use Rattle.text.specs.Number.{number_of}
use Rattle.std.specs.Prelude.{Err}
use Rattle.text.specs.declared.found.NoNumber.TheVariants.{TooLarge}
use Rattle.piece.specs.Mark.{gap_of, end_of, word_of, number_in, name_of}
use Rattle.piece.specs.declared.mark.Mark.{Mark}
use Rattle.piece.proofs.Local.{Local, then_local}
use Rattle.piece.proofs.LocalPieces.{gap_local, end_local, word_local, name_local, number_local}
use Rattle.forms.specs.Words as words
use Rattle.forms.specs.Fresh.{after_execution, after_printers, after_delay, after_scale, after_journal, after_paper, after_ram, making_of}
use Rattle.forms.specs.Help.{of_machine, of_station, helping_of}
use Rattle.forms.proofs.LocalLook.{looking_local}
use Rattle.command.specs.Table.{load_of, compare_of, station_of, runs_of, forward_of, backward_of, infos_of, views_of, forms_of}
use Rattle.place.proofs.Settings.{setting_local, file_local}
use Rattle.place.proofs.Readings.{Keeps, keeps, better_keeps}

module _ (c t t' : List ℕ) (none : (at place : ℕ) → number_of (c ++ t) at ≡ Err (TooLarge place) → place < length c → ⊥) where
  plain : (w : List ℕ) → Local c t t' (λ l m. end_of l (word_of l m w))
  plain w = then_local (word_local c t t' w) (end_local c t t')

  numbered : (w : List ℕ) → Local c t t' (λ l m. end_of l (number_in l (gap_of l (word_of l m w))).mark)
  numbered w = then_local (then_local (then_local (word_local c t t' w) (gap_local c t t')) (number_local c t t' none)) (end_local c t t')

  past : (w : List ℕ) → Local c t t' (λ l m. gap_of l (word_of l m w))
  past w = then_local (word_local c t t' w) (gap_local c t t')

  named : (w : List ℕ) → Local c t t' (λ l m. (name_of l (gap_of l (word_of l m w))).mark)
  named w = then_local (past w) (name_local c t t')

  load : Local c t t' (λ l m. end_of l (number_in l (gap_of l (name_of l (gap_of l (word_of l m words.load))).mark)).mark)
  load = then_local (then_local (then_local (named words.load) (gap_local c t t')) (number_local c t t' none)) (end_local c t t')

  making : Local c t t' (λ l m. (making_of l m).mark)
  unfolding making_of after_ram after_paper after_journal after_scale after_delay after_printers after_execution
  making =
      then_local (then_local (then_local (then_local (then_local (then_local (then_local (then_local (then_local (word_local c t t' words.new)
      (setting_local c t t' none words.ram 64))
      (setting_local c t t' none words.paper 8192))
      (setting_local c t t' none words.journal 4096))
      (setting_local c t t' none words.scale 1))
      (setting_local c t t' none words.delay 100))
      (setting_local c t t' none words.printers 1))
      (file_local c t t' words.execution))
      (file_local c t t' words.bootstrap))
      (end_local c t t')

  module _ (m : Mark) where
    station : Keeps (length c) m (station_of (c ++ t) m) (station_of (c ++ t') m)
    unfolding station_of load_of compare_of
    station = better_keeps (length c) _ _ _ _ _ (better_keeps (length c) _ _ _ _ _ (better_keeps (length c) _ _ _ _ _ (better_keeps (length c) _ _ _ _ _ (better_keeps (length c) _ _ _ _ _ (better_keeps (length c) _ _ _ _ _ (keeps making m _ _ refl refl) (keeps load m _ _ refl refl)) (keeps (then_local (named words.compare) (end_local c t t')) m _ _ refl refl)) (keeps (plain words.save) m _ _ refl refl)) (keeps (plain words.restore) m _ _ refl refl)) (keeps (plain words.quit) m _ _ refl refl)) (keeps (plain words.abandon) m _ _ refl refl)

    runs : Keeps (length c) m (runs_of (c ++ t) m) (runs_of (c ++ t') m)
    unfolding runs_of
    runs = better_keeps (length c) _ _ _ _ _ (better_keeps (length c) _ _ _ _ _ (keeps (numbered words.run) m _ _ refl refl) (keeps (then_local (past words.run) (plain words.exception)) m _ _ refl refl)) (keeps (then_local (past words.run) (numbered words.exception)) m _ _ refl refl)

    forward : Keeps (length c) m (forward_of (c ++ t) m) (forward_of (c ++ t') m)
    unfolding forward_of
    forward = better_keeps (length c) _ _ _ _ _ (better_keeps (length c) _ _ _ _ _ (better_keeps (length c) _ _ _ _ _ (better_keeps (length c) _ _ _ _ _ runs (keeps (plain words.stepi) m _ _ refl refl)) (keeps (numbered words.stepi) m _ _ refl refl)) (keeps (plain words.si) m _ _ refl refl)) (keeps (numbered words.si) m _ _ refl refl)

    backward : Keeps (length c) m (backward_of (c ++ t) m) (backward_of (c ++ t') m)
    unfolding backward_of
    backward = better_keeps (length c) _ _ _ _ _ (better_keeps (length c) _ _ _ _ _ (better_keeps (length c) _ _ _ _ _ (better_keeps (length c) _ _ _ _ _ (better_keeps (length c) _ _ _ _ _ (better_keeps (length c) _ _ _ _ _ (keeps (numbered words.back) m _ _ refl refl) (keeps (plain words.reverse_stepi) m _ _ refl refl)) (keeps (numbered words.reverse_stepi) m _ _ refl refl)) (keeps (plain words.rsi) m _ _ refl refl)) (keeps (numbered words.rsi) m _ _ refl refl)) (keeps (numbered words.blame) m _ _ refl refl)) (keeps (numbered words.before) m _ _ refl refl)

    infos : Keeps (length c) m (infos_of (c ++ t) (gap_of (c ++ t) (word_of (c ++ t) m words.info))) (infos_of (c ++ t') (gap_of (c ++ t') (word_of (c ++ t') m words.info)))
    unfolding infos_of
    infos = better_keeps (length c) _ _ _ _ _ (better_keeps (length c) _ _ _ _ _ (better_keeps (length c) _ _ _ _ _ (better_keeps (length c) _ _ _ _ _ (better_keeps (length c) _ _ _ _ _ (keeps (then_local (past words.info) (plain words.registers)) m _ _ refl refl) (keeps (then_local (past words.info) (plain words.cp0)) m _ _ refl refl)) (keeps (then_local (past words.info) (plain words.tlb)) m _ _ refl refl)) (keeps (then_local (past words.info) (plain words.clocks)) m _ _ refl refl)) (keeps (then_local (past words.info) (plain words.printers)) m _ _ refl refl)) (keeps (then_local (past words.info) (plain words.station)) m _ _ refl refl)

    of_machine_lem : Keeps (length c) m (of_machine (c ++ t) (gap_of (c ++ t) (word_of (c ++ t) m words.help))) (of_machine (c ++ t') (gap_of (c ++ t') (word_of (c ++ t') m words.help)))
    unfolding of_machine
    of_machine_lem = better_keeps (length c) _ _ _ _ _ (better_keeps (length c) _ _ _ _ _ (better_keeps (length c) _ _ _ _ _ (better_keeps (length c) _ _ _ _ _ (better_keeps (length c) _ _ _ _ _ (better_keeps (length c) _ _ _ _ _ (better_keeps (length c) _ _ _ _ _ (keeps (then_local (past words.help) (plain words.load)) m _ _ refl refl) (keeps (then_local (past words.help) (plain words.run)) m _ _ refl refl)) (keeps (then_local (past words.help) (plain words.stepi)) m _ _ refl refl)) (keeps (then_local (past words.help) (plain words.back)) m _ _ refl refl)) (keeps (then_local (past words.help) (plain words.blame)) m _ _ refl refl)) (keeps (then_local (past words.help) (plain words.before)) m _ _ refl refl)) (keeps (then_local (past words.help) (plain words.info)) m _ _ refl refl)) (keeps (then_local (past words.help) (plain words.paper)) m _ _ refl refl)

    of_station_lem : Keeps (length c) m (of_station (c ++ t) (gap_of (c ++ t) (word_of (c ++ t) m words.help))) (of_station (c ++ t') (gap_of (c ++ t') (word_of (c ++ t') m words.help)))
    unfolding of_station
    of_station_lem = better_keeps (length c) _ _ _ _ _ (better_keeps (length c) _ _ _ _ _ (better_keeps (length c) _ _ _ _ _ (better_keeps (length c) _ _ _ _ _ (better_keeps (length c) _ _ _ _ _ (better_keeps (length c) _ _ _ _ _ (keeps (then_local (past words.help) (plain words.new)) m _ _ refl refl) (keeps (then_local (past words.help) (plain words.x)) m _ _ refl refl)) (keeps (then_local (past words.help) (plain words.compare)) m _ _ refl refl)) (keeps (then_local (past words.help) (plain words.save)) m _ _ refl refl)) (keeps (then_local (past words.help) (plain words.restore)) m _ _ refl refl)) (keeps (then_local (past words.help) (plain words.quit)) m _ _ refl refl)) (keeps (then_local (past words.help) (plain words.abandon)) m _ _ refl refl)

    helping : Keeps (length c) m (helping_of (c ++ t) m) (helping_of (c ++ t') m)
    unfolding helping_of
    helping = better_keeps (length c) _ _ _ _ _ (better_keeps (length c) _ _ _ _ _ (keeps (plain words.help) m _ _ refl refl) of_machine_lem) of_station_lem

    views : Keeps (length c) m (views_of (c ++ t) m) (views_of (c ++ t') m)
    unfolding views_of
    views = better_keeps (length c) _ _ _ _ _ (better_keeps (length c) _ _ _ _ _ (better_keeps (length c) _ _ _ _ _ (better_keeps (length c) _ _ _ _ _ infos (keeps (plain words.paper) m _ _ refl refl)) (keeps (numbered words.paper) m _ _ refl refl)) (keeps (looking_local c t t' none words.x false) m _ _ refl refl)) (keeps (looking_local c t t' none words.xp true) m _ _ refl refl)

    pub forms : Keeps (length c) m (forms_of (c ++ t) m) (forms_of (c ++ t') m)
    unfolding forms_of
    forms = better_keeps (length c) _ _ _ _ _ (better_keeps (length c) _ _ _ _ _ (better_keeps (length c) _ _ _ _ _ (better_keeps (length c) _ _ _ _ _ station forward) backward) views) helping
