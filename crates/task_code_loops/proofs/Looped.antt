-- What is appended after a body makes a loop of it, and with what is appended in front of it a whole one.
use Rattle.std.proofs.Common.{◌≡◌, ℕ, suc, ◌+◌, ◌-◌, ◌*◌, ◌<◌, ◌≤◌, List, [], ◌∷◌, ◌++◌, length, true, false, ap, ◌∙◌, sym, subst, arith, inr}
use Rattle.std.proofs.Common.{length-append}
use Rattle.std.specs.Prelude.{◌≢◌, if◌then◌else◌, nat_lt}
use Rattle.std.proofs.lemmas.Bool.Decides.{nat_tests}
use Rattle.rv_insn.specs.declared.instructions.Insn.{Insn}
use Rattle.rv_insn.specs.declared.operations.BranchOp.TheVariants as branches
use Rattle.hart_core.specs.Scalar.{is_taken}
use Rattle.loop_ir.specs.declared.expressions.Counter.{Counter}
use Rattle.loop_ir.specs.Counters.{Values, with}
use Rattle.loop_ir.specs.Running.{iterated}
use Rattle.multi_hart_laws.specs.Alone.{World}
use Rattle.multi_hart_laws.specs.Paths.{Stand, end, Path, Line}
use Rattle.multi_hart_laws.proofs.Paths.{spot, path-then, line-then, stand-front, stand-back, end-append}
use Rattle.task_code_scalar.specs.Fitting.{total}
use Rattle.task_code_scalar.proofs.Looping.{end-length}
use Rattle.task_code_scalar.proofs.Spelling.{emits_then}
use Rattle.task_code_registers.specs.declared.scopes.Held.{Held}
use Rattle.task_code_registers.specs.Holding.{Advances, Enters, IsLoopInvariant, mentions, varying}
use Rattle.task_code_registers.specs.Registers.{scratch, second_scratch}
use Rattle.task_code_registers.specs.Scopes.{Knows, AreHolders, IsKept}
use Rattle.task_code_registers.proofs.Advancing.{scopes-stay}
use Rattle.task_code_registers.proofs.Going.{Went, no_hits, went-hits, went-then, within, still}
use Rattle.task_code_registers.proofs.Knowing.{may-hold, knows-zero, knows-still, kept-apart}
use Rattle.task_code_registers.proofs.Looping.{marked-did, did-went, points_hit}
use Rattle.task_code_registers.proofs.Making.{short-then}
use Rattle.task_code_loops.specs.declared.beginning.BegunLoop.{BegunLoop}
use Rattle.task_code_loops.specs.Beginning.{CanEnd}
use Rattle.task_code_loops.specs.Ending.{MakesLimit, GoesBack, StaysIn, end_words, EndsLoop, MakesLoop, LoopsAreMade, Advanced}
use Rattle.task_code_loops.proofs.Knowledge.{knows-with}
use Rattle.task_code_loops.proofs.Repeating.{loop-goes}
use Rattle.task_code_loops.proofs.Returning.{emits-longer}

is-below : (a b : ℕ) → a < b → nat_lt a b ≡ true
is-below a b l = grind (arith, nat_tests)

is-above : (a b : ℕ) → a ≡ b → nat_lt a b ≡ false
is-above a b e = grind (arith, nat_tests, e)

-- a register that stays is no scratch register
loop_invariant-apart : (counter : Counter) (inner : List Held) (q : ℕ) → IsLoopInvariant counter inner q → (q ≢ scratch) × (q ≢ second_scratch)
loop_invariant-apart counter [] q loop_invariant = loop_invariant
loop_invariant-apart counter (own ∷ others) q loop_invariant = loop_invariant-apart counter others q loop_invariant.1

-- ---- after the body

module _ (begun : BegunLoop) (c0 c1 c2 c3 : List ℕ) (limit start words : ℕ) (ends : CanEnd begun)
    (x : Advances c0 c1 (3 * varying begun.counter begun.inner.items) begun.counter begun.inner.items)
    (y : MakesLimit c1 c2 begun.limit limit) (z : GoesBack c2 c3 begun.register limit words) (behind : start ≤ length c0)
    (over : words ≡ length c2 - start) where
  abbrev counter : Counter
  counter = begun.counter

  abbrev inner : List Held
  inner = begun.inner.items

  abbrev count : ℕ
  count = begun.count

  abbrev moves : List Insn
  moves = x.insns ++ y.insns

  abbrev tail : List Insn
  tail = moves ++ z.insns

  abbrev cost : ℕ → ℕ
  cost i = length moves + (if nat_lt (suc i) count then z.back_cost else z.out_cost)

  module _ (w : World) (hart : ℕ) (values : Values) (body : List Insn) (long : length body ≡ length c0 - start) (holders : AreHolders inner) where
    over-is : words ≡ length body + length moves
    over-is =
        let n1 = emits-longer c0 c1 x.insns x.emits in
        let n2 = emits-longer c1 c2 y.insns y.emits in
        let n3 : length moves ≡ length x.insns + length y.insns = length-append x.insns y.insns in
        omega (arith, n1, n2, n3, over, long, behind)

    reaches : (at : ℕ) → at + 4 * words ≡ end (end at body) moves
    reaches at =
        let e1 = end-length at body in
        let e2 = end-length (end at body) moves in
        let n = over-is in
        omega (arith, e1, e2, n)

    front : (at : ℕ) → Stand w.text at (body ++ tail) → Stand w.text (end at body) moves
    front at s = stand-front w.text (end at body) moves z.insns (stand-back w.text at body tail s)

    last : (at : ℕ) → Stand w.text at (body ++ tail) → Stand w.text (end (end at body) moves) z.insns
    last at s = stand-back w.text (end at body) moves z.insns (stand-back w.text at body tail s)

    advanced : (i : ℕ) (f : ℕ → ℕ) (memory : List ℕ) → i < count → length memory ≡ w.size → Knows hart inner (with counter i values) f
        → Advanced w (IsLoopInvariant counter inner) (Knows hart inner (with counter (suc i) values)) count body tail i (cost i) f memory
    advanced i f memory less size knows =
        let a = x.does w memory hart values i f size holders knows in
        let next = with counter (suc i) values in
        let b = y.does w memory a.after size (knows-zero hart inner next a.after a.mark) in
        let kept : (q : ℕ) → IsKept inner q → b.after q ≡ a.after q = (λ q h. let t = kept-apart inner q holders h in b.others q t.0 t.1) in
        let line : Line w moves f memory b.after memory = line-then w x.insns y.insns f a.after b.after memory memory memory a.line b.line in
        let test = ends.test in
        let m = may-hold begun.register test.may in
        let told : is_taken branches.Bne (b.after begun.register) (b.after limit) ≡ nat_lt (suc i) count =
        ap (λ n. is_taken branches.Bne n (b.after limit)) (b.others begun.register m.first m.second)
        ∙ ap (is_taken branches.Bne (a.after begun.register)) b.value ∙ test.differs hart i values a.after less a.mark in
        record {
          after = b.after;
          keeps = λ q loop_invariant. let t = loop_invariant-apart counter inner q loop_invariant in b.others q t.0 t.1
              ∙ a.keeps q loop_invariant;
          mark = knows-still hart inner next a.after b.after kept a.mark;
          again = λ more at s.
              let e : length moves + z.back_cost ≡ cost i =
              ap (λ t. length moves + (if t then z.back_cost else z.out_cost)) (sym (is-below (suc i) count more)) in
              subst (λ k. Path w (end at body) at k f memory b.after memory) e
              (path-then w (end at body) (end (end at body) moves) at (length moves) z.back_cost f b.after b.after memory memory memory
              (line (end at body) (front at s))
              (z.again w memory b.after (end (end at body) moves) at size (told ∙ is-below (suc i) count more) (last at s) (reaches at)
              (spot w.text at (body ++ tail) s)));
          leaves = λ none at s.
              let e : length moves + z.out_cost ≡ cost i =
              ap (λ t. length moves + (if t then z.back_cost else z.out_cost)) (sym (is-above (suc i) count none)) in
              let g : end (end (end at body) moves) z.insns ≡ end at (body ++ tail) =
              sym (end-append (end at body) moves z.insns) ∙ sym (end-append at body tail) in
              subst (λ k. Path w (end at body) (end at (body ++ tail)) k f memory b.after memory) e
              (subst (λ p. Path w (end at body) p (length moves + z.out_cost) f memory b.after memory) g
              (path-then w (end at body) (end (end at body) moves) (end (end (end at body) moves) z.insns) (length moves) z.out_cost f b.after b.after
              memory memory memory (line (end at body) (front at s))
              (z.leaves w memory b.after (end (end at body) moves) size (told ∙ is-above (suc i) count none) (last at s))));
        }

  pub ends-loop : EndsLoop c0 c3 begun (length c0 - start)
  ends-loop = record {
    insns = tail;
    emits = emits_then (emits_then x.emits y.emits) z.emits;
    short =
        let k = varying counter inner in
        let s = short-then x.insns y.insns (3 * k) 2 (3 * k + 2) x.short y.short (omega arith) in
        short-then moves z.insns (3 * k + 2) 2 (end_words begun) s z.short (omega arith);
    cost = cost;
    advanced = λ w hart values body i f memory long holders less size knows. advanced w hart values body long holders i f memory less size knows;
    does = λ own hart values body t one body_stored stored long holders each all f memory funcs holds knows.
        did-went (loop-goes own (StaysIn counter inner) (λ p i g. Knows hart inner (with counter i values) g)
        (λ p i g. Knows hart inner (with counter i values) g) count body tail t cost one
        (λ i p. points_hit (body_stored i p))
        (λ i g m p l o known. marked-did (IsKept inner) (StaysIn counter inner) (Knows hart inner (with counter i values)) (λ q stays. stays.0)
        (λ after same. knows-still hart inner (with counter i values) g after same known) (each.does i g m p l o known))
        (λ i g m p less size known.
        let a = advanced own.world hart values body long holders i g m less size known in
        record { after = a.after; keeps = λ q stays. a.keeps q stays.1; mark = a.mark; again = a.again; leaves = a.leaves })
        (λ k p. points_hit (stored k p)) all.none all.more ends.some f memory funcs holds knows).went;
  }

-- ---- lengths

-- what makes the next iteration's numbers has this many words
module _ (begun : BegunLoop) (c0 c1 c2 : List ℕ) (limit start count : ℕ)
    (x : Advances c0 c1 (3 * varying begun.counter begun.inner.items) begun.counter begun.inner.items) (y : MakesLimit c1 c2 begun.limit limit)
    (behind : start ≤ length c0) (is : count ≡ length c2) where
  longer : (length c0 ≤ count) × (count + 2 ≤ length c0 + end_words begun)
  longer =
      let n1 = emits-longer c0 c1 x.insns x.emits in
      let n2 = emits-longer c1 c2 y.insns y.emits in
      let s1 = x.short in
      let s2 = y.short in
      (omega (arith, n1, n2, is), omega (arith, n1, n2, s1, s2, is))

  pub starts-before : start ≤ count
  starts-before = let l = longer in let l0 = l.0 in omega (arith, l0, behind)

  pub too-long : (n : ℕ) → n ≤ count - start + 2 → n ≤ length c0 - start + end_words begun
  too-long n more = let l = longer in let l0 = l.0 in let l1 = l.1 in omega (arith, l0, l1, behind, more)

-- ---- the whole loop

pub loops-are-made : LoopsAreMade
loops-are-made c0 c1 c2 c3 most counter count reserved scope begun body none b emits e =
    subst (λ c. MakesLoop c0 c3 (most + end_words begun) scope begun.inner.items c count body) b.counter_is
    (subst (λ n. MakesLoop c0 c3 (most + end_words begun) scope begun.inner.items begun.counter n body) b.count_is
    (made (subst (λ c. mentions c scope ≡ false) (sym b.counter_is) none)))
  where
    long : length body ≡ length c2 - length c1
    long = let n = emits-longer c1 c2 body emits in omega (arith, n)

    enters : Enters c0 c1 most begun.counter scope begun.inner.items
    enters = subst (λ c. Enters c0 c1 most c scope begun.inner.items) (sym b.counter_is) b.enters

    made : mentions begun.counter scope ≡ false → MakesLoop c0 c3 (most + end_words begun) scope begun.inner.items begun.counter begun.count body
    made none' = record {
      insns = enters.insns ++ (body ++ e.insns);
      emits = emits_then enters.emits (emits_then emits e.emits);
      short =
          let n1 : length (enters.insns ++ (body ++ e.insns)) ≡ length enters.insns + length (body ++ e.insns) = length-append enters.insns (body ++ e.insns) in
          let n2 : length (body ++ e.insns) ≡ length body + length e.insns = length-append body e.insns in
          let s1 = enters.short in
          let s2 = e.short in
          omega (arith, n1, n2, s1, s2);
      before = length enters.insns;
      cost = e.cost;
      holders = enters.holders;
      does = λ own hart values t one body_stored stored holders each all f memory funcs holds knows.
          let w = own.world in
          let rest = body ++ e.insns in
          let all_of = enters.insns ++ rest in
          let inner = begun.inner.items in
          let start = enters.does w memory hart values f holds.size holders (knows-with begun.counter 0 hart scope values f none' knows) in
          let stays = scopes-stay begun.counter scope inner enters.extends none' (enters.holders holders) in
          let did = e.does own hart values body t one body_stored stored long (enters.holders holders) each all start.after memory funcs holds start.mark in
          let marked = marked-did (StaysIn begun.counter inner) (IsKept scope) (λ g. Unit {0}) (λ q h. stays q h) (λ g same. tt) did in
          let first : Went own all_of (λ at. at) (λ at. end at enters.insns) (length enters.insns) f memory (IsKept scope) funcs no_hits =
          still own (λ at. at) (λ at. end at enters.insns) (length enters.insns) start.after holds start.keeps
          (λ at s. start.line at (stand-front w.text at enters.insns rest s)) in
          let second : Went own all_of (λ at. end at enters.insns) (λ at. end at all_of) (total begun.count (λ i. t i + e.cost i)) start.after memory
          (IsKept scope) (iterated begun.count one funcs) (points_hit (stored begun.count funcs)) =
          within own (λ at. end at enters.insns) (λ at. end at all_of) (λ at s. stand-back w.text at enters.insns rest s)
          (λ at. sym (end-append at enters.insns rest)) marked.went in
          did-went (went-hits own (λ func x y hit. inr hit) (went-then own first second));
    }
