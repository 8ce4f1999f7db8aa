-- The values of a part's answer.
use Rattle.std.specs.Prelude.{List, [], ◌∷◌, ℕ}
use Rattle.replies.specs.declared.Part.{Part}

-- how many words, the first and the last
abbrev pub words_of : Part → List ℕ
words_of p = p.count ∷ p.first ∷ p.last ∷ []
