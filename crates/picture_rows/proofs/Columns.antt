-- Columns of a window.
use Rattle.std.proofs.Common.{◌≡◌, ◌∙◌, ℕ, ◌+◌, ◌<◌, ◌≤◌, ◌^◌, List, length, get_or, refl, ap, arith}
use Rattle.halide_pipeline.specs.Words as word
use Rattle.picture_rows.specs.Rows.{AreValues, Covers, IsWindow}
use Rattle.picture_rows.specs.declared.windows.Window.{Window}

goes-back : (first column : ℕ) → first < 2 ^ 32 → column < 2 ^ 32 → word.add first (word.subtract column first) ≡ column
unfolding word.add word.subtract
goes-back first column low small = omega arith

goes-on : (first column k : ℕ) → first < 2 ^ 32 → column < 2 ^ 32 → word.add first (word.subtract column first + k) ≡ word.add column k
unfolding word.add word.subtract
goes-on first column k low small = omega arith

pub found-in : (says : ℕ → ℕ) (window : Window) (column at : ℕ) → IsWindow says window → window.first < 2 ^ 32 → column < 2 ^ 32
    → at ≡ word.subtract column window.first → at < length window.values.now → get_or window.values.now at 0 ≡ says column
found-in says window column at is low small at_is less =
    is.each at less ∙ ap says (ap (word.add window.first) at_is ∙ goes-back window.first column low small)

pub columns-are : (says : ℕ → ℕ) (window : Window) (column at count : ℕ) (values : List ℕ) → IsWindow says window → window.first < 2 ^ 32 → column < 2 ^ 32
    → at ≡ word.subtract column window.first → at + count ≤ length window.values.now → AreValues count (λ k. get_or window.values.now (at + k) 0) values
    → AreValues count (λ k. says (word.add column k)) values
columns-are says window column at count values is low small at_is within are = record {
  len = are.len;
  each = λ k less. are.each k less ∙ is.each (at + k) (omega arith)
      ∙ ap says (ap (λ (n : ℕ). word.add window.first (n + k)) at_is ∙ goes-on window.first column k low small);
}

pub fetched : (says : ℕ → ℕ) (window : Window) (columns words : List ℕ) → IsWindow says window → window.first < 2 ^ 32 → Covers window columns
    → AreValues (length columns) (λ at. get_or window.values.now (word.subtract (get_or columns at 0) window.first) 0) words
    → AreValues (length columns) (λ at. says (get_or columns at 0)) words
fetched says window columns words is low covers are = record {
  len = are.len;
  each = λ at less.
      let own = covers.each at less in
      are.each at less ∙ found-in says window (get_or columns at 0) _ is low own.0 refl own.1;
}
