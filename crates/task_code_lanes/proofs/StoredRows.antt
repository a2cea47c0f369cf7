-- Pixels that one instruction stores.
use Rattle.std.proofs.Common.{◌≡◌, ℕ, zero, suc, ◌+◌, ◌^◌, ◌<◌, ◌≤◌, List, [], ◌∷◌, ◌++◌, length, Bool, true, false, refl, ap, ◌∙◌, sym, subst, arith, inl, inr}
use Rattle.std.specs.Prelude.{◌==◌, if◌then◌else◌, map, Option, Some}
use Rattle.std.proofs.lemmas.Bool.{cases_eq}
use Rattle.memory.specs.Access.{byte_at, AreBytes, Word, access_at, touched}
use Rattle.hart_core.specs.Scalar.{one_access}
use Rattle.halide_pipeline.specs.Pixel.{Planes, reads_of}
use Rattle.loop_ir.specs.AtOnce.{Effect}
use Rattle.loop_ir.specs.Running.{iterated}
use Rattle.multi_hart_laws.specs.Alone.{World}
use Rattle.multi_hart.specs.Run.{is_in}
use Rattle.multi_hart_laws.specs.Paths.{stored_at}
use Rattle.multi_hart_laws.specs.LaneMemory.{firsts, accesses_to, AllWritable, stored_lanes}
use Rattle.task_code_scalar.specs.Layout.{func_point, address_of, Holds, IsOf, IsElsewhere, MayStore}
use Rattle.task_code_scalar.specs.Doing.{Setting, IsSetting, AreRun, HoldsFuncs}
use Rattle.task_code_scalar.proofs.Storing.{stored-is, size-stays, bytes-stay, is-touched, words-put, stored-holds, others-stay}
use Rattle.task_code_lanes.proofs.Effects.{laid}

-- ---- places that are touched

in-front : (c : ℕ) (xs ys : List ℕ) → is_in c xs ≡ true → is_in c (xs ++ ys) ≡ true
in-front c [] ys e = absurd (cc e)
in-front c (x ∷ xs) ys e = by-test (c == x) (in-front c xs ys) e
  where
    by-test : (t : Bool) → (is_in c xs ≡ true → is_in c (xs ++ ys) ≡ true) → (if t then true else is_in c xs) ≡ true → (if t then true else is_in c (xs ++ ys))
        ≡ true
    by-test true others e = refl
    by-test false others e = others e

behind : (c : ℕ) (xs ys : List ℕ) → is_in c ys ≡ true → is_in c (xs ++ ys) ≡ true
behind c [] ys e = e
behind c (x ∷ xs) ys e = by-test (c == x) (behind c xs ys e)
  where
    by-test : (t : Bool) → is_in c (xs ++ ys) ≡ true → (if t then true else is_in c (xs ++ ys)) ≡ true
    by-test true others = refl
    by-test false others = others

pub in-places : (i n : ℕ) (a : ℕ → ℕ) (k c : ℕ) → i ≤ k → k < i + n → a k ≤ c → c < a k + 4 → is_in c (touched (map (access_at Word) (firsts i n a))) ≡ true
in-places i zero a k c low high above below = absurd (omega (arith, low, high))
in-places i (suc n) a k c low high above below = elim (cases_eq k i) [
  | inl e ↦ in-front c (touched (one_access Word (a i))) (touched (map (access_at Word) (firsts (suc i) n a)))
      (subst (λ j. is_in c (touched (one_access Word (a j))) ≡ true) e (is-touched (a k) c above below))
  | inr x ↦ behind c (touched (one_access Word (a i))) (touched (map (access_at Word) (firsts (suc i) n a))) (in-places (suc i) n a k c (omega (arith, low, x))
      (omega (arith, high)) above below)
]

pub lanes-same : (memory : List ℕ) (n : ℕ) (a x y : ℕ → ℕ) → ((k : ℕ) → k < n → x k ≡ y k) → stored_lanes memory Word n a x ≡ stored_lanes memory Word n a y
lanes-same memory zero a x y same = refl
lanes-same memory (suc n) a x y same =
    ap (λ m. stored_at m Word (a n) (x n)) (lanes-same memory n a x y (λ k l. same k (omega (arith, l))))
    ∙ ap (stored_at (stored_lanes memory Word n a y) Word (a n)) (same n (omega arith))

-- ---- addresses of a row

module _ (setting : Setting) (good : IsSetting setting) (func n : ℕ) (few : n ≤ 16) (x y v : ℕ → ℕ)
    (can : (k : ℕ) → k < n → setting.written func (x k) (y k) ≡ true) (small : (k : ℕ) → k < n → v k < 2 ^ 32) where
  abbrev w : World
  w = setting.world

  abbrev pub spot : ℕ → ℕ
  spot k = address_of w setting.places (func_point func (x k) (y k))

  abbrev pub own_effect : ℕ → Option Effect
  own_effect k = Some (record { func = func; x = x k; y = y k; pixel = v k })

  pub may : (k : ℕ) → k < n → MayStore w setting.places func (x k) (y k)
  may k b = good.laid.stores func (x k) (y k) (can k b)

  pub all-writable : (setting.in_runs func ≡ true → AreRun setting n func x y) → AllWritable w Word n spot
  all-writable are_run = record {
    aligned = λ k b. (may k b).may.aligned;
    above = λ k b. (may k b).may.above;
    below = λ k b. (may k b).may.below;
    may = λ k b. (may k b).may.may;
    keeps = good.at_once n func x y can are_run;
  }

  -- ---- what memory holds after this many of them

  pub record Row (k : ℕ) (memory : List ℕ) (funcs : Planes) : Type 0 where
    pub holds : HoldsFuncs setting (stored_lanes memory Word k spot v) (laid setting.points own_effect k funcs)
    pub elsewhere : (byte : ℕ) → IsElsewhere w setting.places setting.written byte → byte_at w.text (stored_lanes memory Word k spot v) byte
        ≡ byte_at w.text memory byte
    pub are_bytes : AreBytes memory → AreBytes (stored_lanes memory Word k spot v)

  abbrev Holds-in : List ℕ → Planes → Type 0
  Holds-in z p = Holds w setting.places setting.loaded z (reads_of setting.inputs p)

  one-more : (k : ℕ) → k < n → (memory : List ℕ) (funcs : Planes) → Row k memory funcs → Row (suc k) memory funcs
  unfolding iterated
  one-more k b memory funcs so_far =
      let m = stored_lanes memory Word k spot v in
      let p = laid setting.points own_effect k funcs in
      let h = so_far.holds in
      let is = can k b in
      let e = sym (stored-is m (spot k) (v k)) in
      record {
        holds = record {
          size = ap length (sym e) ∙ size-stays m (spot k) (v k) ∙ h.size;
          are_bytes = subst AreBytes e (bytes-stay m (spot k) (v k) h.are_bytes);
          are_words = words-put setting.points func (x k) (y k) (v k) p h.are_words (small k b);
          holds = subst (λ z. Holds-in z (laid setting.points own_effect (suc k) funcs)) e
              (stored-holds w setting.places setting.written setting.loaded good.laid setting.points setting.inputs p m func (x k) (y k) (v k) is (good.have func (x k) (y k) is)
              h.size (small k b) h.holds);
        };
        elsewhere = λ byte other.
            ap (λ z. byte_at w.text z byte) (sym e) ∙ others-stay w setting.places setting.written setting.loaded good.laid m func (x k) (y k) (v k) byte is other
            ∙ so_far.elsewhere byte other;
        are_bytes = λ are. subst AreBytes e (bytes-stay m (spot k) (v k) (so_far.are_bytes are));
      }

  pub row-holds : (k : ℕ) → k ≤ n → (memory : List ℕ) (funcs : Planes) → HoldsFuncs setting memory funcs → Row k memory funcs
  unfolding iterated
  row-holds zero few-so memory funcs holds = record { holds = holds; elsewhere = λ byte other. refl; are_bytes = λ are. are }
  row-holds (suc k) few-so memory funcs holds = one-more k few-so memory funcs (row-holds k (omega (arith, few-so)) memory funcs holds)

  -- every byte of one of them is written
  pub row-touched : (k byte : ℕ) → k < n → IsOf w setting.places func (x k) (y k) byte → is_in byte (touched (accesses_to Word n spot)) ≡ true
  row-touched k byte b of = in-places 0 n spot k byte (omega arith) (omega (arith, b)) of.above of.below
