-- The words of the language, as bytes.
use Rattle.std.specs.Prelude.{List, [], ◌∷◌, ℕ}

abbrev pub new : List ℕ
new = 110 ∷ 101 ∷ 119 ∷ []

abbrev pub ram : List ℕ
ram = 114 ∷ 97 ∷ 109 ∷ []

abbrev pub paper : List ℕ
paper = 112 ∷ 97 ∷ 112 ∷ 101 ∷ 114 ∷ []

abbrev pub journal : List ℕ
journal = 106 ∷ 111 ∷ 117 ∷ 114 ∷ 110 ∷ 97 ∷ 108 ∷ []

abbrev pub scale : List ℕ
scale = 115 ∷ 99 ∷ 97 ∷ 108 ∷ 101 ∷ []

abbrev pub delay : List ℕ
delay = 100 ∷ 101 ∷ 108 ∷ 97 ∷ 121 ∷ []

abbrev pub printers : List ℕ
printers = 112 ∷ 114 ∷ 105 ∷ 110 ∷ 116 ∷ 101 ∷ 114 ∷ 115 ∷ []

abbrev pub execution : List ℕ
execution = 101 ∷ 120 ∷ 101 ∷ 99 ∷ 117 ∷ 116 ∷ 105 ∷ 111 ∷ 110 ∷ []

abbrev pub bootstrap : List ℕ
bootstrap = 98 ∷ 111 ∷ 111 ∷ 116 ∷ 115 ∷ 116 ∷ 114 ∷ 97 ∷ 112 ∷ []

abbrev pub load : List ℕ
load = 108 ∷ 111 ∷ 97 ∷ 100 ∷ []

abbrev pub compare : List ℕ
compare = 99 ∷ 111 ∷ 109 ∷ 112 ∷ 97 ∷ 114 ∷ 101 ∷ []

abbrev pub save : List ℕ
save = 115 ∷ 97 ∷ 118 ∷ 101 ∷ []

abbrev pub restore : List ℕ
restore = 114 ∷ 101 ∷ 115 ∷ 116 ∷ 111 ∷ 114 ∷ 101 ∷ []

abbrev pub quit : List ℕ
quit = 113 ∷ 117 ∷ 105 ∷ 116 ∷ []

abbrev pub abandon : List ℕ
abandon = 97 ∷ 98 ∷ 97 ∷ 110 ∷ 100 ∷ 111 ∷ 110 ∷ []

abbrev pub run : List ℕ
run = 114 ∷ 117 ∷ 110 ∷ []

abbrev pub exception : List ℕ
exception = 101 ∷ 120 ∷ 99 ∷ 101 ∷ 112 ∷ 116 ∷ 105 ∷ 111 ∷ 110 ∷ []

abbrev pub stepi : List ℕ
stepi = 115 ∷ 116 ∷ 101 ∷ 112 ∷ 105 ∷ []

abbrev pub si : List ℕ
si = 115 ∷ 105 ∷ []

abbrev pub back : List ℕ
back = 98 ∷ 97 ∷ 99 ∷ 107 ∷ []

abbrev pub reverse_stepi : List ℕ
reverse_stepi = 114 ∷ 101 ∷ 118 ∷ 101 ∷ 114 ∷ 115 ∷ 101 ∷ 45 ∷ 115 ∷ 116 ∷ 101 ∷ 112 ∷ 105 ∷ []

abbrev pub rsi : List ℕ
rsi = 114 ∷ 115 ∷ 105 ∷ []

abbrev pub blame : List ℕ
blame = 98 ∷ 108 ∷ 97 ∷ 109 ∷ 101 ∷ []

abbrev pub before : List ℕ
before = 98 ∷ 101 ∷ 102 ∷ 111 ∷ 114 ∷ 101 ∷ []

abbrev pub info : List ℕ
info = 105 ∷ 110 ∷ 102 ∷ 111 ∷ []

abbrev pub registers : List ℕ
registers = 114 ∷ 101 ∷ 103 ∷ 105 ∷ 115 ∷ 116 ∷ 101 ∷ 114 ∷ 115 ∷ []

abbrev pub cp0 : List ℕ
cp0 = 99 ∷ 112 ∷ 48 ∷ []

abbrev pub tlb : List ℕ
tlb = 116 ∷ 108 ∷ 98 ∷ []

abbrev pub clocks : List ℕ
clocks = 99 ∷ 108 ∷ 111 ∷ 99 ∷ 107 ∷ 115 ∷ []

abbrev pub station : List ℕ
station = 115 ∷ 116 ∷ 97 ∷ 116 ∷ 105 ∷ 111 ∷ 110 ∷ []

abbrev pub x : List ℕ
x = 120 ∷ []

abbrev pub xp : List ℕ
xp = 120 ∷ 112 ∷ []

abbrev pub help : List ℕ
help = 104 ∷ 101 ∷ 108 ∷ 112 ∷ []

abbrev pub slash : List ℕ
slash = 47 ∷ []
