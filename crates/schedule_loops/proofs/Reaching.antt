-- A loop that adds up what loops can add to a variable.
use Rattle.std.proofs.Common.{◌≡◌, ℕ, ◌+◌, ◌-◌, ◌*◌, ◌^◌, ◌≤◌, List, ◌∷◌, length, get_or, take, drop, ap, subst, ◌∙◌, arith}
use Rattle.schedule_lines.specs.declared.stages.Loop.{Loop}
use Rattle.schedule_lines.specs.Making.{total}
use Rattle.schedule_loops.proofs.Lists.{first_of_rest}

-- so much is added up before the loops that are left, each adding little
pub record ReachLeft (value : Loop → ℕ) (all rest : List Loop) (sum : ℕ) : Type 0 where
  pub summed : sum + total value rest ≡ total value all
  pub small : sum + length rest * 2 ^ 56 ≤ length all * 2 ^ 56
  pub few : length all ≤ 5

one_added : (value : Loop → ℕ) (all : List Loop) (stage_loop : Loop) (rest : List Loop) (sum added : ℕ) → ReachLeft value all (stage_loop ∷ rest) sum → added ≡ value stage_loop
    → added ≤ 2 ^ 56 → ReachLeft value all rest (sum + added)
one_added value all stage_loop rest sum added left is small = record {
  summed = omega (arith, left.summed, is);
  small = omega (arith, left.small, small);
  few = left.few;
}

pub next_added : (value : Loop → ℕ) (all rest : List Loop) (sum : ℕ) (other stage_loop : Loop) (added : ℕ) → 1 ≤ length rest → ReachLeft value all rest sum
    → stage_loop ≡ get_or rest 0 other → added ≡ value stage_loop → added ≤ 2 ^ 56
    → ReachLeft value all (take (length rest - 1) (drop 1 rest)) (sum + added)
next_added value all rest sum other stage_loop added some left own_is is small =
    one_added value all (get_or rest 0 other) (take (length rest - 1) (drop 1 rest)) sum added
    (subst (λ (ls : List Loop). ReachLeft value all ls sum) (first_of_rest rest other some) left) (is ∙ ap value own_is) small
