-- A refusal as text.
use Rattle.std.specs.Prelude.{List, ◌++◌, ℕ, codes}
use Rattle.std.specs.Fmt.{decimal}
use Rattle.refusal.specs.Number.{number_of}
use Rattle.refusal.specs.declared.Refusal.{Refusal}

abbrev pub refused_text : Refusal → List ℕ
refused_text r = codes "refused " ++ (decimal (number_of r.kind) ++ (codes " " ++ decimal r.place))
