-- Counts of words that are executed one after the other, and where a hart is after a turn of such a word.
use Rattle.std.proofs.Common.{◌≡◌, ◌∙◌, ◌+◌, ◌%◌, ◌^◌, ◌<◌, ◌≤◌, ℕ, zero, suc, true, refl, sym, ap, subst, arith, List, length, length-set}
use Rattle.std.proofs.Common.{replicate, Option, Some, None, inl, inr}
use Rattle.std.specs.Prelude.{option_and_then, slice_get, slice_index, slice_set}
use Rattle.std.proofs.lemmas.Bool.{cases_eq}
use Rattle.std.proofs.lemmas.List.{get_or-replicate, get_or-set_other, get_or-set_same, length-replicate}
use Rattle.std.proofs.lemmas.Option.{slice_get_within}
use Rattle.rv_insn.specs.declared.instructions.Insn.{Insn}
use Rattle.rv_insn.specs.declared.instructions.Insn.TheVariants as i
use Rattle.rv_insn.specs.declared.vector_instructions.VectorInsn.{VectorInsn}
use Rattle.rv_insn.specs.declared.vector_instructions.VectorInsn.TheVariants as v
use Rattle.rv_insn.specs.declared.outcomes.Outcome.TheVariants.{Stepped}
use Rattle.rv_insn.specs.declared.outcomes.Trap.{Trap}
use Rattle.rv_encoding.specs.Decoding.{decoded}
use Rattle.hart_core.specs.HartState.{HartState, next_pc, with_vectors}
use Rattle.hart_core.specs.Scalar.{after}
use Rattle.hart_core.specs.VectorRows.{computed_by, vector_after_turn, with_scalar}
use Rattle.hart_core.specs.Turn.{Next, due, fault, if_running, judged, made, meant, numbers_read}
use Rattle.hart_core.specs.declared.harts.Status.{Status}
use Rattle.hart_core.specs.declared.harts.Status.TheVariants.{Running, Finished, Trapped}
use Rattle.run_reports.specs.inner.Straight.{AreCounts, AreStraight, goes_on, some_goes_on}

-- ---- counts

pub none_straight : (words : List ℕ) (place : ℕ) → AreStraight words place 0
none_straight words place = record {
  there = λ k below. absurd (omega (arith, below));
  go_on = λ k below. absurd (omega (arith, below));
}

pub one_straight : (words : List ℕ) (place : ℕ) → place < length words → AreStraight words place 1
one_straight words place within = record {
  there = λ k below. omega (arith, within, below);
  go_on = λ k below. absurd (omega (arith, below));
}

pub fewer_straight : (words : List ℕ) (place n m : ℕ) → m ≤ n → AreStraight words place n → AreStraight words place m
fewer_straight words place n m few straight = record {
  there = λ k below. straight.there k (omega (arith, below, few));
  go_on = λ k below. straight.go_on k (omega (arith, below, few));
}

pub more_straight : (words : List ℕ) (place word n : ℕ) → slice_get words place ≡ Some word → some_goes_on (decoded word) ≡ true
    → AreStraight words (place + 1) n → AreStraight words place (n + 1)
more_straight words place word n got goes rest = record { there = there_is; go_on = go }
  where
    first : place + 0 ≡ place
    first = omega arith

    later : (k : ℕ) → place + suc k ≡ place + 1 + k
    later k = omega arith

    there_is : (k : ℕ) → k < n + 1 → place + k < length words
    there_is zero below = let within = slice_get_within words place word got in omega (arith, within)
    there_is (suc k) below = let within = rest.there k (omega (arith, below)) in omega (arith, within)

    go : (k : ℕ) → k + 1 < n + 1 → some_goes_on (option_and_then decoded (slice_get words (place + k))) ≡ true
    go zero below = ap (λ n. some_goes_on (option_and_then decoded (slice_get words n))) first ∙ ap (λ o. some_goes_on (option_and_then decoded o)) got ∙ goes
    go (suc k) below = ap (λ n. some_goes_on (option_and_then decoded (slice_get words n))) (later k) ∙ rest.go_on k (omega (arith, below))

-- where each word is counted alone
pub ones_count : (words : List ℕ) → AreCounts words (replicate (length words) 1)
ones_count words = record {
  as_many = length-replicate {A = ℕ} (length words) 1;
  each = λ place within. subst (λ (c : ℕ). AreStraight words place c) (sym (is place within)) (one_straight words place within);
  some = λ place within. (let one = is place within in omega (arith, one));
}
  where
    is : (place : ℕ) → place < length words → slice_index (replicate (length words) 1) place ≡ 1
    is place within = get_or-replicate (length words) place 1 0 within

-- one more is counted
pub set_count : (words counts : List ℕ) (at_place count : ℕ) → at_place < length counts → 1 ≤ count → AreCounts words counts
    → AreStraight words at_place count → AreCounts words (slice_set counts at_place count)
set_count words counts at_place count below some are straight = record {
  as_many = length-set counts at_place count ∙ are.as_many;
  each = λ place within. elim (cases_eq place at_place) [
    | inl same ↦ subst (λ (c : ℕ). AreStraight words place c)
        (sym (ap (slice_index (slice_set counts at_place count)) same ∙ get_or-set_same counts at_place count 0 below))
        (subst (λ (p : ℕ). AreStraight words p count) (sym same) straight)
    | inr other ↦ subst (λ (c : ℕ). AreStraight words place c) (sym (get_or-set_other counts at_place place count 0 other)) (are.each place within)
  ];
  some = λ place within. elim (cases_eq place at_place) [
    | inl same ↦ subst (λ (c : ℕ). 1 ≤ c) (sym (ap (slice_index (slice_set counts at_place count)) same ∙ get_or-set_same counts at_place count 0 below)) some
    | inr other ↦ subst (λ (c : ℕ). 1 ≤ c) (sym (get_or-set_other counts at_place place count 0 other)) (are.some place within)
  ];
}

-- ---- where a hart is after a turn

scalar_pc : (hart : HartState) (scalar : Option (ℕ × ℕ)) → (with_scalar hart scalar).pc ≡ hart.pc
scalar_pc hart None = refl
scalar_pc hart (Some scalar) = refl

computed_pc : (insn : VectorInsn) (hart : HartState) → (computed_by insn hart).pc ≡ next_pc hart
computed_pc insn hart = ap (λ pc. (pc + 4) % 2 ^ 32) (scalar_pc (with_vectors hart _) _)

vector_pc : (insn : VectorInsn) (hart : HartState) (read : List ℕ) → (vector_after_turn insn hart read).pc ≡ next_pc hart
vector_pc (v.Vsetvli rd rs1 vtype) hart read = refl
vector_pc (v.Vsetivli rd length vtype) hart read = refl
vector_pc (v.Vsetvl rd rs1 rs2) hart read = refl
vector_pc (v.LoadElements w vd rs1 addressing vm) hart read = refl
vector_pc (v.StoreElements w vs3 rs1 addressing vm) hart read = refl
vector_pc insn hart read = computed_pc insn hart

pc_behind : (insn : Insn) (hart : HartState) (read : List ℕ) → goes_on insn ≡ true → (after insn hart read).pc ≡ next_pc hart
pc_behind (i.Jal rd offset) hart read goes = absurd cc
pc_behind (i.Jalr rd rs1 imm) hart read goes = absurd cc
pc_behind (i.Branch op rs1 rs2 offset) hart read goes = absurd cc
pc_behind i.Ecall hart read goes = absurd cc
pc_behind i.Ebreak hart read goes = absurd cc
pc_behind (i.Vector insn) hart read goes = vector_pc insn hart read
pc_behind insn hart read goes = refl

module _ (text memory : List ℕ) (hart : HartState) where
  -- a turn that steps leads to the next word
  abbrev pub GoesOn : Next → Type 0
  GoesOn next = (made text memory hart next).outcome ≡ Stepped → (made text memory hart next).hart.pc ≡ next_pc hart

  by_fault : (insn : Insn) (f : Option Trap) → goes_on insn ≡ true → GoesOn (judged insn f)
  by_fault insn None goes came = pc_behind insn hart (numbers_read text memory hart insn) goes
  by_fault insn (Some trap) goes came = absurd cc

  by_meaning : (m : Option Insn) → some_goes_on m ≡ true → GoesOn (meant (length text) (length memory) hart m)
  by_meaning None goes came = absurd cc
  by_meaning (Some insn) goes came = by_fault insn (fault (length text) (length memory) insn hart) goes came

  by_word : (w : Option ℕ) → some_goes_on (option_and_then decoded w) ≡ true → GoesOn (due (length text) (length memory) hart w)
  by_word None goes came = absurd cc
  by_word (Some word) goes came = by_meaning (decoded word) goes came

  pub by_status : (s : Status) (w : Option ℕ) → some_goes_on (option_and_then decoded w) ≡ true
      → GoesOn (if_running s (due (length text) (length memory) hart w))
  by_status Running w goes came = by_word w goes came
  by_status Finished w goes came = absurd cc
  by_status (Trapped trap) w goes came = absurd cc
