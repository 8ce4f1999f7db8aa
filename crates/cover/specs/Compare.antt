-- What comparing a list and a table in one pool asks.
use Rattle.std.specs.Prelude.{◌≡◌, List, ℕ, ◌+◌, ◌*◌, ◌-◌, ◌^◌, ◌<◌, ◌≤◌, max, length}
use Rattle.theory.specs.Tree.{Tree}
use Rattle.theory.specs.Table.{tree_of, meaning, canon, Good}
use Rattle.theory.specs.Words.{stride, nodes}
use Rattle.theory.proofs.Step.{Stands}
use Rattle.refusal.specs.Limits.{max_marks, min_room, max_nodes, max_clauses, plain_work}
use Rattle.cube.specs.Cube.{clause_at}

-- two nodes of a good table, at or below a level
pub record Paired (n level count : ℕ) (words : List ℕ) (p q : ℕ) : Type 0 where
  pub marks : n ≤ max_marks
  pub within : level ≤ n
  pub few : count ≤ 4 * max_nodes
  pub long : stride * count ≤ length words
  pub good : Good n (nodes count words)
  pub left : Stands (nodes count words) level p
  pub right : Stands (nodes count words) level q

-- a canonical table of made nodes at the front of the pool, and room for it and for a table of count nodes
pub record Comparing (n count made : ℕ) (pool memo : List ℕ) : Type 0 where
  pub few : made ≤ max_nodes
  pub canonical : nodes made pool ≡ canon n (meaning n (nodes made pool))
  pub long : stride * (made + count + 1) ≤ length pool
  pub wide : count ≤ length memo

-- both in one good table: t is what its node made - 1 means, u what the root p means
pub record Brought (n : ℕ) (t u : Tree) (made : ℕ) (pool : List ℕ) (p total : ℕ) : Type 0 where
  pub few : total ≤ 4 * max_nodes
  pub long : stride * total ≤ length pool
  pub good : Good n (nodes total pool)
  pub left : made - 1 < total
  pub right : p < total
  pub left-means : tree_of n (nodes total pool) 0 (made - 1) ≡ t
  pub right-means : tree_of n (nodes total pool) 0 p ≡ u

-- beside a table of count nodes: a list without a malformed clause, a room, a memory for any table, and work
pub record Covering (n count clauses : ℕ) (list : List ℕ) (room : ℕ) (memory work : List ℕ) : Type 0 where
  pub listed : clauses ≤ max_clauses
  pub given : 2 * clauses ≤ length list
  pub masks : (i : ℕ) → i < clauses → (clause_at list i).fixed < 2 ^ n
  pub some : min_room ≤ room
  pub few : room ≤ max_nodes
  pub wide : stride * max_nodes ≤ length memory
  pub long : plain_work (max room count) ≤ length work
