-- Words that spell instructions stand in the text that they are a part of.
use Rattle.std.proofs.Common.{◌≡◌, ℕ, suc, ◌+◌, ◌-◌, ◌*◌, ◌/◌, ◌%◌, ◌<◌, ◌≤◌, List, [], ◌∷◌, ◌++◌, length, Some, false, refl, ap, ◌∙◌, sym, subst, arith}
use Rattle.std.proofs.Common.{append_assoc, append-nil, length-append}
use Rattle.std.specs.Prelude.{nat_lt, slice_get}
use Rattle.std.proofs.Math.Seq.{get_or-append_seam}
use Rattle.std.proofs.lemmas.Option.{slice_get-get_or}
use Rattle.std.proofs.lemmas.Bool.Decides.{nat_tests}
use Rattle.rv_insn.specs.declared.instructions.Insn.{Insn}
use Rattle.rv_encoding.specs.Decoding.{decoded}
use Rattle.memory.specs.Access.{fetched}
use Rattle.multi_hart_laws.specs.Paths.{Stand}
use Rattle.task_code_scalar.specs.Words.{Spell, Emits}

spell-append : (ws vs : List ℕ) (is js : List Insn) → Spell ws is → Spell vs js → Spell (ws ++ vs) (is ++ js)
spell-append [] vs [] js s t = t
spell-append [] vs (i ∷ is) js s t = absurd s
spell-append (w ∷ ws) vs [] js s t = absurd s
spell-append (w ∷ ws) vs (i ∷ is) js s t = (s.0, spell-append ws vs is js s.1 t)

pub emits_then : {a b c : List ℕ} {is js : List Insn} → Emits a b is → Emits b c js → Emits a c (is ++ js)
emits_then {a} {b} {c} {is} {js} x y = record {
  words = x.words ++ y.words;
  appended = y.appended ∙ ap (λ z. z ++ y.words) x.appended ∙ append_assoc a x.words y.words;
  spelled = spell-append x.words y.words is js x.spelled y.spelled;
}

-- no words
pub emits-none : (old : List ℕ) → Emits old old []
emits-none old = record { words = []; appended = sym (append-nil old); spelled = tt }

pub emits-one : (old : List ℕ) (word : ℕ) (insn : Insn) → decoded word ≡ Some insn → Emits old (old ++ word ∷ []) (insn ∷ [])
emits-one old word insn e = record { words = word ∷ []; appended = refl; spelled = (e, tt) }

fetched-at : (pre rest : List ℕ) (word : ℕ) → fetched (pre ++ word ∷ rest) (65536 + 4 * length pre) ≡ Some word
fetched-at pre rest word =
    let n = length pre in
    let t : nat_lt (65536 + 4 * n) 65536 ≡ false = grind (arith, nat_tests) in
    let u : nat_lt 0 ((65536 + 4 * n) % 4) ≡ false = let z : (65536 + 4 * n) % 4 ≡ 0 = omega arith in ap (nat_lt 0) z in
    let e : (65536 + 4 * n - 65536) / 4 ≡ n = omega arith in
    let l : n < length (pre ++ word ∷ rest) = omega (arith, length-append pre (word ∷ rest)) in
    rw (t, u) (ap (slice_get (pre ++ word ∷ rest)) e ∙ slice_get-get_or (pre ++ word ∷ rest) n 0 l ∙ ap Some (get_or-append_seam pre word rest 0))

pub stand-spelled : (pre ws post : List ℕ) (is : List Insn) → length (pre ++ (ws ++ post)) ≤ 262144 → Spell ws is
    → Stand (pre ++ (ws ++ post)) (65536 + 4 * length pre) is
stand-spelled pre [] post [] few s = record { low = omega (arith, few, length-append pre post); aligned = omega arith }
stand-spelled pre [] post (i ∷ is) few s = absurd s
stand-spelled pre (w ∷ ws) post [] few s = absurd s
stand-spelled pre (w ∷ ws) post (i ∷ is) few s =
    let e : (pre ++ w ∷ []) ++ (ws ++ post) ≡ pre ++ (w ∷ (ws ++ post)) = append_assoc pre (w ∷ []) (ws ++ post) in
    let n : length (pre ++ w ∷ []) ≡ length pre + 1 = length-append pre (w ∷ []) in
    let few' : length ((pre ++ w ∷ []) ++ (ws ++ post)) ≤ 262144 = subst (λ t. length t ≤ 262144) (sym e) few in
    let at : 65536 + 4 * length (pre ++ w ∷ []) ≡ 65536 + 4 * length pre + 4 = omega (arith, n) in (
      record { word = w; fetched = fetched-at pre (ws ++ post) w; decoded = s.0 },
      subst (λ a. Stand (pre ++ (w ∷ (ws ++ post))) a is) at (subst (λ t. Stand t (65536 + 4 * length (pre ++ w ∷ [])) is) e (stand-spelled (pre ++ w ∷ []) ws
          post is few' s.1)),
    )

pub spell-length : (ws : List ℕ) (is : List Insn) → Spell ws is → length ws ≡ length is
spell-length [] [] s = refl
spell-length [] (i ∷ is) s = absurd s
spell-length (w ∷ ws) [] s = absurd s
spell-length (w ∷ ws) (i ∷ is) s = ap suc (spell-length ws is s.1)

pub emits-length : (inner : List ℕ) (is : List Insn) → Emits [] inner is → length inner ≡ length is
emits-length inner is x = ap length x.appended ∙ spell-length x.words is x.spelled

-- what was made apart is appended
pub emits-apart : (old new inner : List ℕ) (is : List Insn) → Emits [] inner is → new ≡ old ++ inner → Emits old new is
emits-apart old new inner is x e = record { words = x.words; appended = e ∙ ap (λ z. old ++ z) x.appended; spelled = x.spelled }
