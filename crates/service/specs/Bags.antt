-- Bags as a controller lends them: for each a budget, whether it starts the program again, and the words that go into a window of memory.
use Rattle.std.specs.Prelude.{ℕ, zero, suc, ◌*◌, Bool, false, List, [], ◌∷◌, ◌++◌, length, get_or, take, drop}
use Rattle.program.specs.Bytes.{over}
use Rattle.service.specs.Service.{Bag}
use Rattle.service.specs.declared.bags.Window.{Window}
use Rattle.service.specs.declared.bags.Bags.{Bags}

-- the window, and the slices
pub record Schedule : Type 0 where
  pub window : Window
  pub budgets : List ℕ
  pub restarts : List Bool
  pub words : List ℕ

abbrev pub schedule_of : Window → List ℕ → List Bool → List ℕ → Schedule
schedule_of window budgets restarts words = record { window = window; budgets = budgets; restarts = restarts; words = words }

-- of bags as the code lends them
abbrev pub schedule_in : Bags → Schedule
schedule_in b = schedule_of b.window b.budgets.now b.restarts.now b.words.now

-- words put into a memory from word `first` on; what lies before and past them stays
abbrev pub filled : ℕ → List ℕ → List ℕ → List ℕ
filled first words memory = take first memory ++ over words (drop first memory)

-- the words of bag i: `size` of them from word i × size on
abbrev pub words_of : Schedule → ℕ → List ℕ
words_of d i = take d.window.size (drop (i * d.window.size) d.words)

-- bag i
abbrev pub bag_at : Schedule → ℕ → Bag
bag_at d i =
    record { fills = filled d.window.first.0 (words_of d i); restarts = get_or d.restarts i false; budget = get_or d.budgets i 0 }

-- the first n bags in their order
unfoldable pub first_bags : Schedule → ℕ → List Bag
first_bags d zero = []
first_bags d (suc n) = first_bags d n ++ (bag_at d n ∷ [])

-- a bag for each budget
abbrev pub bags_of : Schedule → List Bag
bags_of d = first_bags d (length d.budgets)
