-- The device area of a good board: every word that it reads is a word, and a store leaves the board, and the core's lines, good.
use Prim.{tt}
use Prim.Native.Nat.{ℕ, ◌/◌, ◌^◌, ◌≤◌, ◌<◌}
use mathlib.Core.Path.{◌≡◌}
use mathlib.Core.Bool.{true, false, ◌&&◌}
use native.Mathlib.Omega.{arith}
use borrow.Author.Tests.{leb-true}
use lib.Dec.{eqb, leb}
use lib.ListN.{get_or}
use Rattle.word.specs.Lists.{Below}
use Rattle.word.specs.Number.{between}
use Rattle.word.proofs.Cond.{both, picked}
use Rattle.board.specs.declared.places.Sizes.{Sizes}
use Rattle.bus.specs.Offset.{is_device, line_of, number_of, field_of}
use Rattle.bus.specs.Store.{register_write, bus_write_of}
use Rattle.bus.specs.Stored.{line_stored, clock_stored, timer_line, InLine}
use Rattle.bus.specs.Words.{bus_table, registers_of, bus_word_of}
use Rattle.bus.specs.declared.store.Store.{Store}
use Rattle.bus.specs.declared.store.Store.TheVariants.{Timer, Command, Data}
use Rattle.std.proofs.Common.{Option, Some, None}
use Rattle.bus.proofs.Stores.{store_keeps}
use Rattle.cp0.specs.Registers.{with_register}
use Rattle.printer.specs.Tick.{no_printer}
use Rattle.state.specs.Layout.{clock_words, settings_words, printer_words}
use Rattle.state.specs.declared.machine.Core.{Core}
use Rattle.state.specs.declared.machine.Board.{Board}
use Rattle.rules.specs.Rules.{ranges_keep}
use Rattle.step.specs.Apply.{with_cp0, bus_of, device_word, board_stored, lines_stored}
use Rattle.good.proofs.Belows.{below_any, each_below, below_each}
use Rattle.good.proofs.Causes.{Steady, timer_steady}
use Rattle.good.proofs.Control.{cause_steady, random_own, lined_good, with_cp0_lem}
use Rattle.good.proofs.Printers.{command_words, data_words}
use Rattle.good.proofs.Sound.{CoreSound, LineWords, BoardSound}
use Rattle.good.proofs.Sources.{control_good}

-- a word can count what is lent
pub record Countable (sizes : Sizes) : Type 0 where
  pub ram : sizes.ram < 2 ^ 32
  pub execution : sizes.execution < 2 ^ 32
  pub bootstrap : sizes.bootstrap < 2 ^ 32

-- ---- reads

module _ (sizes : Sizes) (b : Board) {room : ℕ} (count : Countable sizes) (s : BoardSound b room) where
  table_small : Below (2 ^ 32) (bus_table (bus_of sizes b))
  unfolding bus_table
  table_small =
      let clock = below_each (clock_words b.clock) s.clock in
      let settings = below_each (settings_words b.settings) s.settings in
      let pending = s.words.pending in
      each_below (bus_table (bus_of sizes b)) (omega arith)

  registers_small : (n : ℕ) → n < 8 → Below (2 ^ 32) (registers_of (get_or b.line.printers n no_printer))
  registers_small n h =
      let p = get_or b.line.printers n no_printer in
      let old = below_each (printer_words p) (s.words.each n h) in
      each_below (registers_of p) (old.0, (old.1.0, (old.1.1.0, (omega arith, tt))))

  pub device_word_lem : (offset : ℕ) → device_word sizes b offset < 2 ^ 32
  unfolding bus_word_of
  device_word_lem offset =
      let n = number_of offset in
      let small : ℕ → Type 0 = λ x. x < 2 ^ 32 in
      picked small (is_device offset) _ _
      (λ _. picked small (eqb (line_of offset) 6) _ _
      (λ _. below_any (registers_of (get_or b.line.printers n no_printer)) (registers_small n (omega arith)) (omega arith) (field_of offset))
      (λ _. omega arith))
      (λ _. below_any (bus_table (bus_of sizes b)) table_small (omega arith) (offset / 4))

-- ---- stores

abbrev pub SmallStore : Option Store → Type 0
SmallStore None = Unit {0}
SmallStore (Some (Timer word)) = word < 2 ^ 32
SmallStore (Some (Command n word)) = word < 2 ^ 32
SmallStore (Some (Data n word)) = word < 2 ^ 32

pub small_store : (offset word : ℕ) → word < 2 ^ 32 → SmallStore (bus_write_of offset word)
unfolding bus_write_of
small_store offset word h =
    let n = number_of offset in
    let register : SmallStore (register_write n (field_of offset) word) =
    picked SmallStore (eqb (field_of offset) 1) _ _ (λ _. h) (λ _. picked SmallStore (eqb (field_of offset) 2) _ _ (λ _. h) (λ _. tt)) in
    picked SmallStore (eqb offset 0x20) _ _ (λ _. h)
    (λ _. picked SmallStore (is_device offset) _ _ (λ _. picked SmallStore (eqb (line_of offset) 6) _ _ (λ _. register) (λ _. tt)) (λ _. tt))

some_delay : (scale delay installed : ℕ) → ranges_keep scale delay installed ≡ true → 1 ≤ delay
some_delay scale delay installed e =
    let h = (both (between 1 255 scale && between 1 65535 delay) (leb installed 255) e).0 in
    let g = (both (between 1 255 scale) (between 1 65535 delay) h).1 in
    leb-true 1 delay (both (leb 1 delay) (leb delay 65535) g).0

module _ (b : Board) {room : ℕ} (s : BoardSound b room) where
  clock_stored_lem : (store : Option Store) → SmallStore store → Below (2 ^ 32) (clock_words (clock_stored store b.clock))
  clock_stored_lem None h = s.clock
  clock_stored_lem (Some (Timer word)) h =
      let old = below_each (clock_words b.clock) s.clock in
      each_below (clock_words (clock_stored (Some (Timer word)) b.clock)) (old.0, (old.1.0, (h, tt)))
  clock_stored_lem (Some (Command n word)) h = s.clock
  clock_stored_lem (Some (Data n word)) h = s.clock

  words_stored : (store : Option Store) → InLine store → SmallStore store →
      LineWords (line_stored b.settings.installed b.settings.delay store b.line)
  words_stored None n h = s.words
  words_stored (Some (Timer word)) n h = s.words
  words_stored (Some (Command k word)) n h =
      command_words b.line s.words s.line.eight k n b.settings.installed b.settings.delay word (s.settings 1 (omega arith)) h
  words_stored (Some (Data k word)) n h = data_words b.line s.words s.line.eight k n b.settings.installed word h

  pub board_stored_lem : (store : Option Store) → InLine store → SmallStore store → BoardSound (board_stored store b) room
  board_stored_lem store n h =
      let set = b.settings in
      record {
        clock = clock_stored_lem store h;
        settings = s.settings;
        ranges = s.ranges;
        words = words_stored store n h;
        line = store_keeps set.installed set.delay room store b.line n (some_delay set.scale set.delay set.installed s.ranges) s.line;
      }

timer_line_lem : (store : Option Store) {cause : ℕ} → Steady cause → Steady (timer_line store cause)
timer_line_lem None s = s
timer_line_lem (Some (Timer word)) s = timer_steady false s
timer_line_lem (Some (Command n word)) s = s
timer_line_lem (Some (Data n word)) s = s

pub lines_stored_lem : (store : Option Store) (next : ℕ) {c : Core} {pending : ℕ} → CoreSound c pending → CoreSound (with_cp0 (lines_stored store next c.cp0) c) next
unfolding with_register
lines_stored_lem store next {c} s =
    let g = control_good s in
    with_cp0_lem s _ next
    (lined_good g c.cp0.random next (timer_line store c.cp0.cause) (random_own g) (timer_line_lem store (cause_steady g)))
