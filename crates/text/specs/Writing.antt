-- Text in a lent buffer.
use Rattle.std.specs.Prelude.{◌≡◌, List, ◌++◌, ℕ, ◌+◌, ◌≤◌, length, take}
use Rattle.refusal.specs.Buffers.{padded}
use Rattle.text.specs.declared.Text.{Text}

-- a text has its place behind what is there
abbrev pub Fits : List ℕ → Text → Type 0
Fits text t = t.len + length text ≤ length t.out.now

-- the text stands behind what was there, in the same buffer
pub record Appends (text : List ℕ) (t t' : Text) : Type 0 where
  pub end : t'.len ≡ t.len + length text
  pub front : take t'.len t'.out.now ≡ take t.len t.out.now ++ text
  pub long : length t'.out.now ≡ length t.out.now
  pub same : t'.out.ghost_name ≡ t.out.ghost_name

-- the text is all that the buffer holds, with zeros behind it, and r is its length
pub record Prints (text out out' : List ℕ) (r : ℕ) : Type 0 where
  pub size : r ≡ length text
  pub fits : r ≤ length out
  pub all : out' ≡ padded text (length out)
