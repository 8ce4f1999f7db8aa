-- Reading a number byte by byte, the most significant first, and numbers one after another.
use mathlib.Core.Path.{◌≡◌, refl, sym, ap, ap₂, ◌∙◌}
use mathlib.Core.List.{List, [], ◌∷◌, ◌++◌}
use Prim.Native.Nat.{ℕ, zero, suc, ◌+◌, ◌*◌, ◌/◌, ◌%◌, ◌^◌, ◌<◌, ◌≤◌}
use native.Mathlib.Omega.{arith}
use lib.ListN.{length, get_or, set, take, drop, length-set, length-append}
use lib.Seq.{take-suc-set, drop-cons}
use Rattle.sheet.specs.Bytes.{le_word, le_bytes, le_words}

-- the first numbers stand in the output
pub record Filled (k : ℕ) (bytes : List ℕ) (place : ℕ) (out : List ℕ) (i : ℕ) (out' : List ℕ) : Type 0 where
  pub long : length out' ≡ length out
  pub words : take i out' ≡ le_words k i bytes place

pub filled_none : (k : ℕ) (bytes : List ℕ) (place : ℕ) (out : List ℕ) → Filled k bytes place out 0 out
unfolding le_words
filled_none k bytes place out = record { long = refl; words = refl }

pub filled_more : (k : ℕ) (bytes : List ℕ) (place : ℕ) (out : List ℕ) (i : ℕ) (out' : List ℕ) → Filled k bytes place out i out' → i < length out
    → (w : ℕ) → w ≡ le_word k bytes (place + k * i) → Filled k bytes place out (i + 1) (set out' i w)
unfolding le_words
filled_more k bytes place out i out' f h w e =
    let s : i + 1 ≡ suc i = omega arith in
    record {
      long = simp length-set f.long;
      words = rw s (take-suc-set out' i w (omega (arith, f.long)) ∙ ap₂ (λ (a : List ℕ) (b : ℕ). a ++ (b ∷ [])) f.words e);
    }

pub filled-all : (k : ℕ) (bytes : List ℕ) (place : ℕ) (out : List ℕ) (i : ℕ) (out' : List ℕ) → Filled k bytes place out i out' → (count : ℕ) → i ≡ count → take count out' ≡ le_words k count bytes place
filled-all k bytes place out i out' f count e = rw (← e) f.words

pub length-words : (k m : ℕ) (bytes : List ℕ) (i : ℕ) → length (le_words k m bytes i) ≡ m
unfolding le_words
length-words k zero bytes i = refl
length-words k (suc m) bytes i = omega (arith, length-append (le_words k m bytes i) (le_word k bytes (i + k * m) ∷ []), length-words k m bytes i)

-- so many words are there
pub taken_long : (k m : ℕ) (bytes : List ℕ) (i : ℕ) (out : List ℕ) → take m out ≡ le_words k m bytes i → m ≡ length (take m out)
taken_long k m bytes i out e = sym (ap length e ∙ length-words k m bytes i)

-- ---- there and back again
word_tail : (k b : ℕ) (bytes : List ℕ) (i : ℕ) → le_word k (b ∷ bytes) (suc i) ≡ le_word k bytes i
unfolding le_word
word_tail zero b bytes i = refl
word_tail (suc k) b bytes i =
    let s : suc i + 1 ≡ suc (i + 1) = omega arith in
    rw s (ap (λ r. get_or bytes i 0 + 256 * r) (word_tail k b bytes (i + 1)))

pub word_of_bytes : (k w : ℕ) → w < 256 ^ k → le_word k (le_bytes k w) 0 ≡ w
unfolding le_word le_bytes
word_of_bytes zero w h = omega arith
word_of_bytes (suc k) w h =
    let p : 256 ^ suc k ≡ 256 * 256 ^ k = omega arith in
    rw (word_tail k (w % 256) (le_bytes k (w / 256)) 0, word_of_bytes k (w / 256) (omega arith)) (omega arith)

pub bytes_of_word : (k : ℕ) (bytes : List ℕ) (i : ℕ) → i + k ≤ length bytes → ((j : ℕ) → get_or bytes j 0 < 256) → le_bytes k (le_word k bytes i) ≡ take k (drop i bytes)
unfolding le_word le_bytes
bytes_of_word zero bytes i h small = refl
bytes_of_word (suc k) bytes i h small =
    let b : get_or bytes i 0 < 256 = small i in
    let r : (get_or bytes i 0 + 256 * le_word k bytes (i + 1)) % 256 ≡ get_or bytes i 0 = omega arith in
    let q : (get_or bytes i 0 + 256 * le_word k bytes (i + 1)) / 256 ≡ le_word k bytes (i + 1) = omega arith in
    let s : suc i ≡ i + 1 = omega arith in
    rw (r, q, drop-cons bytes i 0 (omega arith), s, bytes_of_word k bytes (i + 1) (omega arith) small)
