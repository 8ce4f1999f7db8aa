-- Numbers as bytes, least significant byte first, over the number of bytes.
use Rattle.std.specs.Prelude.{List, [], ◌∷◌, ◌++◌, ℕ, zero, suc, ◌+◌, ◌*◌, ◌/◌, ◌%◌, get_or}

-- the number in the k bytes from place i on
unfoldable pub le_word : ℕ → List ℕ → ℕ → ℕ
le_word zero bytes i = 0
le_word (suc k) bytes i = get_or bytes i 0 + 256 * le_word k bytes (i + 1)

-- a number's k bytes
unfoldable pub le_bytes : ℕ → ℕ → List ℕ
le_bytes zero w = []
le_bytes (suc k) w = w % 256 ∷ le_bytes k (w / 256)

-- the first m numbers, of k bytes each, from place i on
unfoldable pub le_words : ℕ → ℕ → List ℕ → ℕ → List ℕ
le_words k zero bytes i = []
le_words k (suc m) bytes i = le_words k m bytes i ++ (le_word k bytes (i + k * m) ∷ [])
