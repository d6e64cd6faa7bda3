-- The Status word: the KU/IE stack in bits 0-5, the VM stack in bits 24-26; what lies between and above them is kept.
use Rattle.std.specs.Prelude.{ℕ, ◌+◌, ◌*◌, ◌/◌, ◌%◌, ◌^◌}
use Rattle.cp0.specs.Stack.{pushed_stack, popped_stack}
use Rattle.cp0.specs.declared.status.Status.{Status}

abbrev pub modes_of : ℕ → ℕ
modes_of word = word % 2 ^ 6

abbrev pub middle : ℕ → ℕ
middle word = word / 2 ^ 6 % 2 ^ 18

abbrev pub vm_of : ℕ → ℕ
vm_of word = word / 2 ^ 24 % 2 ^ 3

abbrev pub above : ℕ → ℕ
above word = word / 2 ^ 27

abbrev pub word_of : ℕ → ℕ → ℕ → ℕ → ℕ
word_of m n v a = m + n * 2 ^ 6 + v * 2 ^ 24 + a * 2 ^ 27

-- a Status with other stacks, all else kept
abbrev pub with_stacks : Status → ℕ → ℕ → Status
with_stacks s modes vm = record { word = word_of modes (middle s.word) vm (above s.word) }

-- both stacks moved by the same rule
abbrev pub moved : (ℕ → ℕ → ℕ) → Status → Status
moved rule s = with_stacks s (rule 4 (modes_of s.word)) (rule 2 (vm_of s.word))

unfoldable pub pushed_of : Status → Status
pushed_of s = moved pushed_stack s

unfoldable pub popped_of : Status → Status
popped_of s = moved popped_stack s
