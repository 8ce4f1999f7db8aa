-- What the posting choice's export replies.
use Rattle.std.specs.Prelude.{List, [], ℕ}
use Rattle.refusal.specs.Verdict.{Verdict, answered}
use Rattle.posting.specs.Posting.{posting}
use Rattle.replies.specs.Replies.{part_values}

-- the chosen part in three numbers
abbrev pub posts : List ℕ → List ℕ → Verdict
posts dnf cnf = answered (part_values (posting dnf cnf)) []
