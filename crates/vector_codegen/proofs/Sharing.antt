-- A program of phases shares its work.
use Rattle.std.proofs.Common.{◌≡◌, ℕ, zero, suc, ◌+◌, ◌*◌, ◌%◌, ◌^◌, ◌<◌, ◌≤◌, List, [], ◌∷◌, length, Bool, true, false, Some, refl, ap, ◌∙◌, sym, subst, arith}
use Rattle.std.proofs.Common.{inl, inr}
use Rattle.std.specs.Prelude.{◌==◌, slice_get, slice_index, slice_index_or, replicate, negsuc}
use Rattle.std.proofs.lemmas.Bool.{cases_lt}
use Rattle.std.proofs.lemmas.Bool.Decides.{nat_tests}
use Rattle.memory.specs.Access.{text_start, data_start, AreBytes, word_at}
use Rattle.hart_core.specs.HartState.{HartState, opening_hart}
use Rattle.hart_core.specs.Scalar.{offset_from}
use Rattle.rv_insn.specs.declared.instructions.Insn.TheVariants.{Jal, Branch}
use Rattle.rv_insn.specs.declared.operations.BranchOp.TheVariants.{Bne}
use Rattle.multi_hart_laws.specs.Uses.{Task, Setup}
use Rattle.multi_hart_laws.specs.Alone.{Says, Covers}
use Rattle.multi_hart_laws.specs.Paths.{At, Stand, end, Path}
use Rattle.multi_hart_laws.proofs.Paths.{path-then, covers-more}
use Rattle.multi_hart_laws.proofs.Jumps.{jump}
use Rattle.work_sharing.specs.Phases.{Phase, Stands, IsControl, Code, HasGate, HasEnd}
use Rattle.work_sharing.specs.Solo.{world, SoonDone, TaskDone, TaskWrites}
use Rattle.work_sharing.specs.Bridges.{numbers_of, Keep}
use Rattle.work_sharing.specs.Programs.{IsControlByte, OfNoTask, Fresh, Link, Follows, Program, Opens}
use Rattle.work_sharing.specs.Turns.{ticket_word, gate_word}
use Rattle.work_sharing.proofs.Bridges.{at-numbers, stands-there, path-does}
use Rattle.work_sharing.proofs.Phases.{each-of}
use Rattle.work_sharing.proofs.ExampleWords.{zeros}
use Rattle.task_code_scalar.specs.Code.{back, forth}
use Rattle.vector_codegen.specs.PhaseCode.{Part, door_code, to_door, phase_code, begin, door_at, draw_at}
use Rattle.vector_codegen.specs.Sharing.{Matter, no_part, part_at, is_last, phase, IsShared, ProgramsShare}
use Rattle.vector_codegen.proofs.PhaseStanding.{forth-to, back-to, Which, end-is, stand-phase, at-door, at-draw, at-tasks, at-back, behind}
use Rattle.vector_codegen.proofs.Setting.{after, sets-ticket, sets-gate, sets-one, sets-tasks, keeps-low, comes}

module _ (text : List ℕ) (size harts : ℕ) (parts : List Part) (matter : ℕ → Matter) (last : ℕ) (memory : List ℕ) (s : IsShared text size harts parts matter last
    memory) where
  abbrev P : ℕ → Phase
  P k = phase text size harts parts matter k

  abbrev part : ℕ → Part
  part k = part_at text size harts parts matter k

  abbrev ends : ℕ → Bool
  ends k = is_last text size harts parts matter k

  abbrev at : ℕ → ℕ
  at k = begin text_start parts k

  -- ---- where it is

  four : (a : ℕ) (ps : List Part) (k : ℕ) → a % 4 ≡ 0 → begin a ps k % 4 ≡ 0
  four a ps zero e = e
  four a [] (suc k) e = e
  four a (p ∷ ps) (suc k) e = four (a + 4 * (length p.insns + 16)) ps k (omega (arith, e))

  aligned : (k : ℕ) → at k % 4 ≡ 0
  aligned k = four text_start parts k refl

  which : (k : ℕ) → k ≤ last → Which (ends k) k (length parts)
  which k l = let c = s.count in elim (cases_lt k last) [
    | inl b ↦ let e : ends k ≡ false = grind (arith, nat_tests, c, b) in subst (λ x. Which x k (length parts)) (sym e) (omega (arith, b, c))
    | inr b ↦ let e : ends k ≡ true = grind (arith, nat_tests, c, b, l) in subst (λ x. Which x k (length parts)) (sym e) (omega (arith, b, c, l))
  ]

  stands-code : (k : ℕ) → k ≤ last → Stand text (at k) (phase_code (ends k) (ticket_word k) (part k))
  stands-code k l = stand-phase text parts text_start 0 k (ticket_word k) (ends k) s.stands (let c = s.count in omega (arith, c, l)) (which k l)
      (ap ticket_word (let e : k ≡ 0 + k = omega arith in e))

  not-last : (k : ℕ) → k < last → ends k ≡ false
  not-last k l = let c = s.count in let e : (suc k == length parts) ≡ false = grind (arith, nat_tests, c, l) in e

  the-last : ends last ≡ true
  the-last = let c = s.count in let e : (suc last == length parts) ≡ true = grind (arith, nat_tests, c) in e

  next-at : (a : ℕ) (ps : List Part) (k : ℕ) → k < length ps → begin a ps (suc k) ≡ begin a ps k + 4 * (length (slice_index_or ps k no_part).insns + 16)
  next-at a [] k l = absurd (omega (arith, l))
  next-at a (p ∷ ps) zero l = refl
  next-at a (p ∷ ps) (suc k) l = next-at (a + 4 * (length p.insns + 16)) ps k (omega (arith, l))

  low-draw : (k : ℕ) → k ≤ last → draw_at (ends k) (at k) + 8 < 2 ^ 32
  low-draw k l = let q = (at-draw text (at k) (ends k) (ticket_word k) (part k) (stands-code k l)).1.1.low in omega (arith, q)

  -- ---- control words

  control-byte : (k a : ℕ) → data_start ≤ a → a < data_start + 8 * suc k → IsControlByte k a
  control-byte k a l h = (l, h)

  room-for : (k : ℕ) → k ≤ last → data_start + 8 * suc k ≤ data_start + size
  room-for k l = let r = s.room in omega (arith, r, l)

  -- a word of the control bytes up to those of phase k
  control-word : (k a : ℕ) → k ≤ last → a % 4 ≡ 0 → data_start ≤ a → a + 4 ≤ data_start + 8 * suc k → IsControl (P k) a
  control-word k a l e low high = record {
    aligned = e;
    above = low;
    below = let r = room-for k l in omega (arith, r, high);
    first = s.control k a l (low, omega (arith, high));
    second = s.control k (a + 1) l (omega (arith, low), omega (arith, high));
    third = s.control k (a + 2) l (omega (arith, low), omega (arith, high));
    fourth = s.control k (a + 3) l (omega (arith, low), omega (arith, high));
  }

  -- ---- draw, door

  out-is : (b : Bool) (a : ℕ) → draw_at b a + 8 < 2 ^ 32 → offset_from (draw_at b a + 4) (to_door b) ≡ door_at a
  out-is true a l = back-to (draw_at true a + 4) 2 (door_at a) (omega arith) (omega arith) (omega (arith, l))
  out-is false a l = back-to (draw_at false a + 4) 5 (door_at a) (omega arith) (omega arith) (omega (arith, l))

  codes : (k : ℕ) → k ≤ last → Code (P k)
  codes k l = record {
    out = to_door (ends k);
    draw = (at-draw text (at k) (ends k) (ticket_word k) (part k) (stands-code k l)).0;
    test = (at-draw text (at k) (ends k) (ticket_word k) (part k) (stands-code k l)).1.0;
    out_is = out-is (ends k) (at k) (low-draw k l);
    aligned = let q = aligned k in omega (arith, q);
    draw_fits = low-draw k l;
    tickets = control-word k (ticket_word k) l (omega arith) (omega arith) (omega arith);
    gates = control-word k (gate_word k) l (omega arith) (omega arith) (omega arith);
    two_words = refl;
    size = s.small;
    few = s.few k l;
  }

  door-says : (k : ℕ) → k ≤ last → (b : Bool) → ends k ≡ b → Stand text (door_at (at k)) (door_code b (length (part k).insns + 3))
  door-says k l b e = subst (λ c. Stand text (door_at (at k)) (door_code c (length (part k).insns + 3))) e (at-door text (at k) (ends k) (ticket_word k)
      (part k) (stands-code k l))

  gates : (k : ℕ) → k < last → HasGate (P k)
  gates k l =
      let d = door-says k (omega (arith, l)) false (not-last k l) in
      let fits = d.1.1.1.1.low in
      record {
        back = negsuc 1;
        add = d.0;
        look = d.1.0;
        again = subst (λ a. Says text a (Branch Bne 17 11 (negsuc 1))) (let e : door_at (at k) + 4 + 4 ≡ door_at (at k) + 8 = omega arith in e) d.1.1.0;
        back_is = back-to (door_at (at k) + 8) 1 (door_at (at k) + 4) (omega arith) (omega arith) (omega (arith, fits));
        gate_fits = omega (arith, fits);
      }

  leaves : HasEnd (P last)
  leaves = (door-says last (omega arith) true the-last).0

  -- ---- the ways to the draws

  control-small : (k : ℕ) → k ≤ last → ticket_word k + 4 < 2 ^ 32
  control-small k l = let r = room-for k l in let c = s.small in omega (arith, r, c)

  way : (k number : ℕ) (f : ℕ → ℕ) (m : List ℕ) (l : k ≤ last) (e : length m ≡ size) → Path (world (P k) Setup number) (at k) (draw_at (ends k) (at k)) 9 f m
      (after (world (P k) Setup number) m e f (ticket_word k) (part k).tasks (control-small k l) (s.words k l)) m
  way k number f m l e = comes (world (P k) Setup number) m e f (ticket_word k) (part k).tasks (control-small k l) (s.words k l) (at k) (ends k) (part k) refl
      (aligned k) (stands-code k l)

  way-keeps : (k number : ℕ) (f : ℕ → ℕ) (m : List ℕ) (l : k ≤ last) (e : length m ≡ size) → f 10 ≡ number → f 11 ≡ harts
      → Keep (P k) number (after (world (P k) Setup number) m e f (ticket_word k) (part k).tasks (control-small k l) (s.words k l))
  way-keeps k number f m l e en eh = record {
    number_is = keeps-low (world (P k) Setup number) m e f (ticket_word k) (part k).tasks (control-small k l) (s.words k l) 10 (omega arith) ∙ en;
    harts = keeps-low (world (P k) Setup number) m e f (ticket_word k) (part k).tasks (control-small k l) (s.words k l) 11 (omega arith) ∙ eh;
    ticket = sets-ticket (world (P k) Setup number) m e f (ticket_word k) (part k).tasks (control-small k l) (s.words k l);
    gate = sets-gate (world (P k) Setup number) m e f (ticket_word k) (part k).tasks (control-small k l) (s.words k l);
    one = sets-one (world (P k) Setup number) m e f (ticket_word k) (part k).tasks (control-small k l) (s.words k l);
    tasks = sets-tasks (world (P k) Setup number) m e f (ticket_word k) (part k).tasks (control-small k l) (s.words k l);
  }

  -- from the gate of one phase to the draw of the next
  crosses : (k number : ℕ) (h : HartState) (m : List ℕ) → k < last → Stands (P k) number h (door_at (at k) + 12) → length m ≡ size → AreBytes m
      → SoonDone (P (suc k)) Setup number 10 h m
  crosses k number h m l st e b =
      let w = world (P (suc k)) Setup number in
      let f = numbers_of h in
      let here : At (door_at (at k) + 12) f h = stands-there (P k) number (door_at (at k) + 12) h st in
      let d = door-says k (omega (arith, l)) false (not-last k l) in
      let says : Says text (door_at (at k) + 12) (Jal 0 (forth (length (part k).insns + 3 + 1))) =
      subst (λ a. Says text a (Jal 0 (forth (length (part k).insns + 3 + 1)))) (let q : door_at (at k) + 4 + 4 + 4 ≡ door_at (at k) + 12 = omega arith in q)
      d.1.1.1.0 in
      let next = next-at text_start parts k (let c = s.count in omega (arith, c, l)) in
      let to : door_at (at k) + 12 + 4 * (length (part k).insns + 3 + 1) ≡ at (suc k) = omega (arith, next) in
      let low : at (suc k) < 2 ^ 32 = let q = low-draw (suc k) (omega (arith, l)) in omega (arith, q) in
      let over : Path w (door_at (at k) + 12) (at (suc k)) 1 f m f m = jump w f m e (door_at (at k) + 12) (at (suc k)) (forth (length (part k).insns + 3 + 1))
      says (forth-to (door_at (at k) + 12) (length (part k).insns + 3 + 1) (at (suc k)) to low) (aligned (suc k)) in
      let g = after w m e f (ticket_word (suc k)) (part (suc k)).tasks (control-small (suc k) (omega (arith, l))) (s.words (suc k) (omega (arith, l))) in
      let n : numbers_of h 10 ≡ number = sym (here.same 10 (omega arith)) ∙ st.kept.number in
      path-does (P (suc k)) Setup number (door_at (at k) + 12) 10 f g h m m here
      (path-then w (door_at (at k) + 12) (at (suc k)) (draw_at (ends (suc k)) (at (suc k))) 1 9 f f g m m m over (way (suc k) number f m (omega (arith, l)) e))
      (way-keeps (suc k) number f m (omega (arith, l)) e n (sym (here.same 11 (omega arith)) ∙ st.kept.harts)) tt

  -- ---- tasks

  abbrev from : ℕ → ℕ
  from k = draw_at (ends k) (at k) + 8

  back-at : (k : ℕ) → k ≤ last → offset_from (end (from k) (part k).insns) (back (length (part k).insns + 2)) ≡ draw_at (ends k) (at k)
  back-at k l =
      let e = end-is (from k) (part k).insns in
      let b = (behind text (at k) (ends k) (ticket_word k) (part k) (stands-code k l)).low in
      back-to (end (from k) (part k).insns) (length (part k).insns + 2) (draw_at (ends k) (at k)) (omega (arith, e)) (omega arith) (omega (arith, e, b))

  done : (k : ℕ) → k ≤ last → TaskDone (P k)
  done k l task number h m b =
      let w = world (P k) (Task task) number in
      let r = s.runs k task number h m l b in
      let n = (matter k).turns task in
      let f = numbers_of h in
      let draw = draw_at (ends k) (at k) in
      let here : At (from k) f h = stands-there (P k) number (from k) h b.stands in
      let through : Path w (from k) (end (from k) (part k).insns) n f m r.after r.left = r.block (from k) (at-tasks text (at k) (ends k) (ticket_word k)
      (part k) (stands-code k l)) in
      let al : draw % 4 ≡ 0 = let q = aligned k in omega (arith, q) in
      let home : Path w (end (from k) (part k).insns) draw 1 r.after r.left r.after r.left = jump w r.after r.left r.size_stays (end (from k) (part k).insns)
      draw (back (length (part k).insns + 2)) (at-back text (at k) (ends k) (ticket_word k) (part k) (stands-code k l)) (back-at k l) al in
      let whole : Path w (from k) draw (suc n) f m r.after r.left = subst (λ i. Path w (from k) draw i f m r.after r.left) (let q : n + 1 ≡ suc n =
      omega arith in q) (path-then w (from k) (end (from k) (part k).insns) draw n 1 f r.after r.after m r.left r.left through home) in
      path-does (P k) (Task task) number (from k) (suc n) f r.after h m r.left here whole r.keeps r.does

  writes : (k : ℕ) → k ≤ last → TaskWrites (P k)
  writes k l task number h m b a own w =
      let r = s.runs k task number h m l b in
      let n = (matter k).turns task in
      let here : At (from k) (numbers_of h) h = stands-there (P k) number (from k) h b.stands in
      let c = r.covers (from k) a (at-tasks text (at k) (ends k) (ticket_word k) (part k) (stands-code k l)) own w h here in
      subst (λ i. Covers text size i h m a) (let q : n + 1 ≡ suc n = omega arith in q) (covers-more text size n 1 h m a c)

  -- ---- one phase after the other

  fresh-word : (k a : ℕ) → k < last → data_start + 8 * suc k ≤ a → a + 4 ≤ data_start + 8 * suc last → Fresh (P k) a
  fresh-word k a l low high =
      let first = s.fresh k a (omega (arith, l)) low (omega (arith, high)) in
      let second = s.fresh k (a + 1) (omega (arith, l)) (omega (arith, low)) (omega (arith, high)) in
      let third = s.fresh k (a + 2) (omega (arith, l)) (omega (arith, low)) (omega (arith, high)) in
      let fourth = s.fresh k (a + 3) (omega (arith, l)) (omega (arith, low)) (omega (arith, high)) in
      record {
        first = first.0;
        second = second.0;
        third = third.0;
        fourth = fourth.0;
        zero = rw (first.1, second.1, third.1, fourth.1) refl;
      }

  links : (k : ℕ) → k < last → Link (P k) (P (suc k))
  links k l = record {
    code = codes k (omega (arith, l));
    waits = gates k l;
    text = refl;
    size = refl;
    harts = refl;
    gate = control-word (suc k) (gate_word k) (omega (arith, l)) (omega arith) (omega arith) (omega arith);
    before = omega arith;
    setup = λ number h m st e b. crosses k number h m l st e b;
  }

  following : (k : ℕ) → k < last → Follows (P k) (P (suc k))
  following k l = record {
    link = links k l;
    tickets = fresh-word k (ticket_word (suc k)) l (omega arith) (omega (arith, l));
    gates = fresh-word k (gate_word (suc k)) l (omega arith) (omega (arith, l));
    found = λ a y. s.follows k a l y;
  }

  no-task : (k a : ℕ) → k ≤ last → IsControlByte last a → OfNoTask ((P k).uses a)
  no-task k a l c = elim (cases_lt a (data_start + 8 * suc k)) [
    | inl b ↦ subst OfNoTask (sym (s.control k a l (c.0, b))) tt
    | inr b ↦ subst OfNoTask (sym (s.fresh k a l b c.1).0) tt
  ]

  pub shares : Program P last
  shares = record {
    code = codes;
    tickets = λ k l. refl;
    control = no-task;
    tasks = done;
    follows = following;
    leave = leaves;
    some = λ k l. s.some;
  }

  pub task-writes : (k : ℕ) → k ≤ last → TaskWrites (P k)
  task-writes = writes

  -- ---- the start

  vectors-are : (v : ℕ) (bytes : List ℕ) → slice_get (replicate 32 (replicate 16 0)) v ≡ Some bytes → (length bytes ≡ 16) × AreBytes bytes
  vectors-are v bytes e =
      let q = each-of 32 (replicate 16 0) bytes v e in
      (sym (ap length q), subst AreBytes q (λ i. let z : slice_index (replicate 16 0) i ≡ 0 = zeros 16 i in omega (arith, z)))

  enters : (number : ℕ) → number < harts → SoonDone (P 0) Setup number 9 (opening_hart text_start harts number) memory
  enters number few =
      let h = opening_hart text_start harts number in
      let f = numbers_of h in
      let here : At text_start f h = at-numbers text_start h refl refl refl refl vectors-are in
      let g = after (world (P 0) Setup number) memory s.whole f (ticket_word 0) (part 0).tasks (control-small 0 (omega arith)) (s.words 0 (omega arith)) in
      path-does (P 0) Setup number text_start 9 f g h memory memory here (way 0 number f memory (omega arith) s.whole) (way-keeps 0 number f memory
      (omega arith) s.whole refl refl) tt

  zero-word : (a : ℕ) → data_start ≤ a → a + 4 ≤ data_start + 8 → word_at text memory a ≡ 0
  zero-word a l h =
      rw (
        s.zeros a (l, omega (arith, h)),
        s.zeros (a + 1) (omega (arith, l), omega (arith, h)),
        s.zeros (a + 2) (omega (arith, l), omega (arith, h)),
        s.zeros
            (a + 3) (omega (arith, l), omega (arith, h)),
      ) refl

  pub opens : Opens (P 0) text_start memory
  opens = record {
    size = s.whole;
    bytes = s.bytes;
    setup = enters;
    tickets = zero-word (ticket_word 0) (omega arith) (omega arith);
    gates = zero-word (gate_word 0) (omega arith) (omega arith);
    found = s.found;
  }

pub programs-share : ProgramsShare
programs-share text size harts parts matter last memory s = (
  shares text size harts parts matter last memory s,
  (
    opens text size harts parts matter last memory s,
    task-writes text size harts parts matter last memory
        s,
  ),
)
