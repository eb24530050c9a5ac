-- What right sizes say of a table.
use Rattle.std.specs.Prelude.{◌≡◌, false, not, ◌||◌, ◌+◌, ◌*◌, ◌≤◌, ◌<◌, eqb, ltb, length}
use Rattle.std.proofs.Common.{arith, length-drop, ltb-false, eqb-true}
use Rattle.std.proofs.lemmas.Bool.{eqb-false, not-false}
use Rattle.semantics.specs.Text.{Text}
use Rattle.semantics.specs.Table.{node_count, pool_length, sizes_wrong, pool}
use Rattle.laws.specs.Basics.{or_neither}

-- right sizes: what each of the five tests says
pub record Right (bytes : Text) : Type 0 where
  pub three : 3 ≤ length bytes
  pub some_node : 0 < node_count bytes
  pub few_nodes : node_count bytes ≤ 96
  pub small_pool : pool_length bytes ≤ 512
  pub total : length bytes ≡ 3 + 4 * node_count bytes + pool_length bytes

pub right_of : (bytes : Text) → sizes_wrong bytes ≡ false → Right bytes
unfolding sizes_wrong
right_of bytes e =
    let n = node_count bytes in
    let p = pool_length bytes in
    let h₄ = or_neither (ltb (length bytes) 3 || eqb n 0 || ltb 96 n || ltb 512 p) (not (eqb (length bytes) (3 + 4 * n + p))) e in
    let h₃ = or_neither (ltb (length bytes) 3 || eqb n 0 || ltb 96 n) (ltb 512 p) h₄.0 in
    let h₂ = or_neither (ltb (length bytes) 3 || eqb n 0) (ltb 96 n) h₃.0 in
    let h₁ = or_neither (ltb (length bytes) 3) (eqb n 0) h₂.0 in
    let some_node : n ≡ 0 → ⊥ = eqb-false n 0 h₁.1 in
    record {
      three = ltb-false (length bytes) 3 h₁.0;
      some_node = omega arith;
      few_nodes = ltb-false 96 n h₂.1;
      small_pool = ltb-false 512 p h₃.1;
      total = eqb-true (length bytes) (3 + 4 * n + p) (not-false _ h₄.1);
    }

-- the pool has its length
pub pool_is : (bytes : Text) → sizes_wrong bytes ≡ false → length (pool bytes) ≡ pool_length bytes
unfolding pool
pool_is bytes e = let h = right_of bytes e in rw length-drop (omega arith)
