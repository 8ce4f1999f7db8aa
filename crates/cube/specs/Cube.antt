-- Lists of clauses: what they mean case by case, and their building, one clause after another in list order.
use Rattle.std.specs.Prelude.{Bool, true, false, cond, not, ◌&&◌, ◌||◌, List, [], ◌∷◌, ◌++◌, ℕ, zero, suc, ◌+◌, ◌*◌, ◌-◌, ◌/◌, ◌^◌, get_or}
use Rattle.std.specs.Bool.{beq}
use Rattle.theory.specs.Mask.{odd, bit}
use Rattle.theory.specs.Tree.{Tree, leaf, fork, konst, tabulate}
use Rattle.theory.specs.Table.{Table, tree_of}
use Rattle.theory.specs.Clause.{Clause, clause}

-- every mark below k passes the test
unfoldable pub every_mark : ℕ → (ℕ → Bool) → Bool
every_mark zero p = true
every_mark (suc k) p = p 0 && every_mark k (λ i. p (suc i))

-- some mark below k passes the test
unfoldable pub some_mark : ℕ → (ℕ → Bool) → Bool
some_mark zero p = false
some_mark (suc k) p = p 0 || some_mark k (λ i. p (suc i))

-- the literal at mark i holds: the case's bit is the clause's value
abbrev pub holds_at : Clause → ℕ → ℕ → Bool
holds_at x c i = beq (bit i x.values) (bit i c)

-- as a DNF clause it holds when all its literals hold
unfoldable pub all_hold : ℕ → Clause → ℕ → Bool
all_hold n x c = every_mark n (λ i. not (bit i x.fixed) || holds_at x c i)

-- as a CNF clause when at least one does
unfoldable pub one_holds : ℕ → Clause → ℕ → Bool
one_holds n x c = some_mark n (λ i. bit i x.fixed && holds_at x c i)

-- a DNF list says yes where some clause holds; the empty one is false
unfoldable pub dnf : ℕ → List Clause → ℕ → Bool
dnf n [] c = false
dnf n (x ∷ xs) c = all_hold n x c || dnf n xs c

-- a CNF list says yes where every clause holds; the empty one is true
unfoldable pub cnf : ℕ → List Clause → ℕ → Bool
cnf n [] c = true
cnf n (x ∷ xs) c = one_holds n x c && cnf n xs c

-- what a list says of a case: of a DNF for b = true, of a CNF for b = false
abbrev pub list_says : Bool → ℕ → List Clause → ℕ → Bool
list_says true n xs = dnf n xs
list_says false n xs = cnf n xs

-- the function of a list, over n marks
abbrev pub list_means : Bool → ℕ → List Clause → Tree
list_means b n xs = tabulate n (list_says b n xs)

-- entry i of a list of clauses, two words each: fixed marks, then values
abbrev pub clause_at : List ℕ → ℕ → Clause
clause_at words i = clause (get_or words (2 * i) 0) (get_or words (2 * i + 1) 0)

-- entry i of a list of cases, one word each: a clause that fixes every mark
abbrev pub case_at : ℕ → List ℕ → ℕ → Clause
case_at n words i = clause (2 ^ n - 1) (get_or words i 0)

abbrev pub entry_at : Bool → ℕ → List ℕ → ℕ → Clause
entry_at true n words i = case_at n words i
entry_at false n words i = clause_at words i

-- the opening run of k entries
unfoldable pub opening : (ℕ → Clause) → ℕ → List Clause
opening entry zero = []
opening entry (suc k) = opening entry k ++ (entry k ∷ [])

-- ---- building
-- the tree t, but b on the cube of the clause with masks f and v, bit 0 for the first level. For b = true the cube is where every literal
-- holds (a clause of a DNF), for b = false where none does (a clause of a CNF): at a fixed mark it lies on the high side exactly if the value is b.
unfoldable pub set_cube : Bool → ℕ → ℕ → Tree → Tree
set_cube b f v (leaf x) = leaf b
set_cube b f v (fork lo hi) =
    fork
    (cond (odd f && beq (odd v) b) lo (set_cube b (f / 2) (v / 2) lo))
    (cond (odd f && not (beq (odd v) b)) hi (set_cube b (f / 2) (v / 2) hi))

-- the literals at the first k marks all have the truth value b in the case c
unfoldable pub all_are : Bool → ℕ → ℕ → ℕ → ℕ → Bool
all_are b zero f v c = true
all_are b (suc k) f v c = (not (odd f) || beq (beq (odd v) (odd c)) b) && all_are b k (f / 2) (v / 2) (c / 2)

-- the clauses set one after another
unfoldable pub run : Bool → Tree → List Clause → Tree
run b t [] = t
run b t (x ∷ xs) = run b (set_cube b x.fixed x.values t) xs

-- the function of a list, built from the front
unfoldable pub built : Bool → ℕ → List Clause → Tree
built b n xs = run b (konst n (not b)) xs

-- inside a build: the part of node a's tree at level l, with the cube's rest set, or as it is where the way down has left the cube
abbrev pub part : Bool → ℕ → ℕ → Table → ℕ → ℕ → ℕ → Bool → Tree
part b f v s k l a off = cond off (tree_of k s l a) (set_cube b (f / 2 ^ l) (v / 2 ^ l) (tree_of k s l a))
