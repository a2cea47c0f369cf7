-- The phases of a pipeline one after the other: each begins with what the one before it leaves at the points of Funcs at root.
use Rattle.std.proofs.Common.{◌≡◌, ℕ, zero, suc, ◌<◌, ◌≤◌, Bool, true, false, cond, List, [], ◌∷◌, ◌++◌, length, Option, Some, None, refl, sym, ap, subst, ◌∙◌}
use Rattle.std.proofs.Common.{arith, inl, inr}
use Rattle.std.specs.Prelude.{◌==◌, nat_lt, slice_get, Ok}
use Rattle.std.proofs.lemmas.Bool.{cases_lt, cases_eq, ne_eqb, lt-ltb, le-ltb}
use Rattle.std.proofs.lemmas.List.{append_assoc, append-nil}
use Rattle.halide_pipeline.specs.declared.definitions.Func.{Func}
use Rattle.halide_pipeline.specs.Pipelines.{Pipeline}
use Rattle.halide_pipeline.specs.Words as word
use Rattle.halide_pipeline.specs.Pixel.{Planes, func_plane, stage, pixels}
use Rattle.schedule.specs.declared.plans.FuncPlan.{FuncPlan}
use Rattle.schedule.specs.declared.schedules.Schedule.{Schedule}
use Rattle.schedule.specs.declared.placements.ComputeLevel.{ComputeLevel}
use Rattle.schedule.specs.declared.placements.ComputeLevel.TheVariants as standpoints
use Rattle.schedule.specs.declared.placements.FuncPlacement.{FuncPlacement}
use Rattle.schedule.specs.Accepted.{IsAccepted, IsPlan}
use Rattle.bounds.specs.declared.boxes.SourceBox.{SourceBox}
use Rattle.bounds.specs.declared.verdict.Boxes.{Boxes}
use Rattle.bounds.specs.Extents.{box_in, corner_of}
use Rattle.bounds.specs.Verdict.{inferred}
use Rattle.bounds_laws.proofs.BoxFacts.{has_box}
use Rattle.bounds_laws.proofs.PutIn.{pair_there}
use Rattle.loop_ir.specs.declared.statements.Phase.{Phase}
use Rattle.lowering.specs.Lowered.{ArePhasesOf, None_yet, One_more, IsNotAtRoot, AreLowered, No_func, Passed, Computed}
use Rattle.lowering.specs.Planes.{held}
use Rattle.bounds.specs.Stages.{IsAtRoot, StagePosition, stages_to, stages_where, stages_at, stages_below}
use Rattle.lowering.specs.Stages.{after_stages}
use Rattle.vector_codegen_laws.specs.Points.{RootPoint}
use Rattle.vector_codegen_laws.proofs.Counting.{length_behind}
use Rattle.vector_codegen_laws.proofs.Facts.{Work, stage_of, IsKnown, known_phase}
use Rattle.vector_codegen_laws.proofs.Matters.{start_of, result_of, AgreeAtRoots}

get_before : {A : Type 0} (xs : List A) (x : A) (k : ℕ) → k < length xs → slice_get (xs ++ x ∷ []) k ≡ slice_get xs k
get_before [] x k l = absurd (omega (arith, l))
get_before (y ∷ xs) x zero l = refl
get_before (y ∷ xs) x (suc k) l = get_before xs x k (omega (arith, l))

get_last : {A : Type 0} (xs : List A) (x : A) (k : ℕ) → k ≡ length xs → slice_get (xs ++ x ∷ []) k ≡ Some x
get_last [] x zero e = refl
get_last [] x (suc k) e = absurd (omega (arith, e))
get_last (y ∷ xs) x zero e = absurd (omega (arith, e))
get_last (y ∷ xs) x (suc k) e = get_last xs x k (omega (arith, e))

-- one more after the first this many
with_last : (ℕ → Work) → ℕ → Work → ℕ → Work
with_last works n last k = cond (nat_lt k n) (works k) last

last_before : (works : ℕ → Work) (n : ℕ) (last : Work) (k : ℕ) → k < n → with_last works n last k ≡ works k
unfolding with_last
last_before works n last k l = ap (λ (b : Bool). cond b (works k) last) (lt-ltb k n l)

last_is : (works : ℕ → Work) (n : ℕ) (last : Work) (k : ℕ) → n ≤ k → with_last works n last k ≡ last
unfolding with_last
last_is works n last k l = ap (λ (b : Bool). cond b (works k) last) (le-ltb k n l)

module _ (pipeline : Pipeline) (schedule : Schedule) (boxes : Boxes) (inputs : Planes) where
  abbrev before : ℕ → Planes
  before count = held boxes.funcs (pixels pipeline.funcs inputs count)

  abbrev Agree : Planes → Planes → Type 0
  Agree one other = AgreeAtRoots pipeline schedule boxes one other

  abbrev start : Work → Planes
  start work = start_of pipeline schedule boxes inputs work

  abbrev result : Work → Planes
  result work = result_of pipeline schedule boxes inputs work

  -- what the first this many phases leave
  abbrev pub left_by : (ℕ → Work) → ℕ → Planes
  left_by works zero = held boxes.funcs (pixels pipeline.funcs inputs 0)
  left_by works (suc k) = result_of pipeline schedule boxes inputs (works k)

  -- all phases of a list, which leave these planes
  pub record Told (phases : List Phase) (all : List StagePosition) (planes : Planes) : Type 0 where
    pub works : ℕ → Work
    pub known : (k : ℕ) → k < length phases → IsKnown pipeline schedule boxes (works k)
    pub phase_is : (k : ℕ) → k < length phases → slice_get phases k ≡ Some (works k).phase
    pub starts : (k : ℕ) → k < length phases → AgreeAtRoots pipeline schedule boxes (start_of pipeline schedule boxes inputs (works k)) (left_by works k)
    pub ends : AgreeAtRoots pipeline schedule boxes (left_by works (length phases)) planes
    pub stages_are : length all ≡ length phases
    pub stage_is : (k : ℕ) → k < length phases → slice_get all k ≡ Some (stage_of (works k))

  same_left : (works : ℕ → Work) (n : ℕ) (last : Work) (k : ℕ) → k ≤ n → left_by (with_last works n last) k ≡ left_by works k
  same_left works n last zero l = refl
  same_left works n last (suc k) l = ap result (last_before works n last k l)

  agree_first : (one other like : Planes) → like ≡ one → Agree one other → Agree like other
  agree_first one other like e agree func x y p = ap (λ (planes : Planes). planes func x y) e ∙ agree func x y p

  agree_second : (one other like : Planes) → Agree one other → like ≡ other → Agree one like
  agree_second one other like agree e func x y p = agree func x y p ∙ sym (ap (λ (planes : Planes). planes func x y) e)

  module _ (phases : List Phase) (all : List StagePosition) (planes : Planes) (told : Told phases all planes) where
    told_same : (other : Planes) → Agree planes other → Told phases all other
    told_same other agree = record {
      works = told.works;
      known = told.known;
      phase_is = told.phase_is;
      starts = told.starts;
      ends = λ func x y p. told.ends func x y p ∙ agree func x y p;
      stages_are = told.stages_are;
      stage_is = told.stage_is;
    }

    module _ (last : Work) (is_known : IsKnown pipeline schedule boxes last) (agree : Agree (start last) planes) where
      more : ℕ → Work
      more = with_last told.works (length phases) last

      count_is : length (phases ++ last.phase ∷ []) ≡ suc (length phases)
      count_is = length_behind phases last.phase

      more_before : (k : ℕ) → k < length phases → more k ≡ told.works k
      unfolding more
      more_before k l = last_before told.works (length phases) last k l

      more_last : (k : ℕ) → length phases ≤ k → more k ≡ last
      unfolding more
      more_last k l = last_is told.works (length phases) last k l

      left_before : (k : ℕ) → k ≤ length phases → left_by more k ≡ left_by told.works k
      unfolding more
      left_before k l = same_left told.works (length phases) last k l

      same_count : (k : ℕ) → k < length (phases ++ last.phase ∷ []) → length phases ≤ k → k ≡ length phases
      same_count k l m = let c = count_is in omega (arith, l, m, c)

      known_more : (k : ℕ) → k < length (phases ++ last.phase ∷ []) → IsKnown pipeline schedule boxes (more k)
      known_more k l = elim (cases_lt k (length phases)) [
        | inl b ↦ subst (λ (w : Work). IsKnown pipeline schedule boxes w) (sym (more_before k b)) (told.known k b)
        | inr b ↦ subst (λ (w : Work). IsKnown pipeline schedule boxes w) (sym (more_last k b)) is_known
      ]

      phase_more : (k : ℕ) → k < length (phases ++ last.phase ∷ []) → slice_get (phases ++ last.phase ∷ []) k ≡ Some (more k).phase
      phase_more k l = elim (cases_lt k (length phases)) [
        | inl b ↦ get_before phases last.phase k b ∙ (told.phase_is k b ∙ ap (λ (w : Work). Some w.phase) (sym (more_before k b)))
        | inr b ↦ get_last phases last.phase k (same_count k l b) ∙ ap (λ (w : Work). Some w.phase) (sym (more_last k b))
      ]

      starts_more : (k : ℕ) → k < length (phases ++ last.phase ∷ []) → Agree (start (more k)) (left_by more k)
      starts_more k l = elim (cases_lt k (length phases)) [
        | inl b ↦
            agree_first (start (told.works k)) (left_by more k) (start (more k)) (ap start (more_before k b))
            (agree_second (start (told.works k)) (left_by told.works k) (left_by more k) (told.starts k b) (left_before k (omega (arith, b))))
        | inr b ↦
            let same = same_count k l b in
            agree_first (start last) (left_by more k) (start (more k)) (ap start (more_last k b))
            (agree_second (start last) (left_by told.works (length phases)) (left_by more k) (λ func x y p. agree func x y p ∙ sym (told.ends func x y p))
            (left_before k (omega (arith, same)) ∙ ap (left_by told.works) same))
      ]

      ends_more : Agree (left_by more (length (phases ++ last.phase ∷ []))) (result last)
      ends_more func x y p =
          ap (λ (m : ℕ). left_by more m func x y) count_is ∙ ap (λ (w : Work). result w func x y) (more_last (length phases) (omega arith))

      stages_more : length (all ++ stage_of last ∷ []) ≡ length (phases ++ last.phase ∷ [])
      stages_more =
          let same = told.stages_are in
          let one = length_behind all (stage_of last) in
          let other = count_is in
          omega (arith, same, one, other)

      stage_more : (k : ℕ) → k < length (phases ++ last.phase ∷ []) → slice_get (all ++ stage_of last ∷ []) k ≡ Some (stage_of (more k))
      stage_more k l =
          let same = told.stages_are in
          elim (cases_lt k (length phases)) [
            | inl b ↦ get_before all (stage_of last) k (omega (arith, b, same))
                ∙ (told.stage_is k b ∙ ap (λ (w : Work). Some (stage_of w)) (sym (more_before k b)))
            | inr b ↦
                let here = same_count k l b in
                get_last all (stage_of last) k (omega (arith, here, same)) ∙ ap (λ (w : Work). Some (stage_of w)) (sym (more_last k b))
          ]

      told_more : Told (phases ++ last.phase ∷ []) (all ++ stage_of last ∷ []) (result last)
      told_more = record {
        works = more;
        known = known_more;
        phase_is = phase_more;
        starts = starts_more;
        ends = ends_more;
        stages_are = stages_more;
        stage_is =
            stage_more;
      }

  -- ---- the stages of a Func

  stages_told : (place : ℕ) (func : Func) (plan : FuncPlan) (own : SourceBox) → IsAtRoot pipeline schedule boxes place func plan own
      → (others phases : List Phase) (number : ℕ)
      → ArePhasesOf pipeline schedule boxes place func plan own others number phases
      → (all : List StagePosition) → Told others all (before place)
      → Told phases (all ++ stages_to place number) (held boxes.funcs (after_stages pipeline.funcs inputs place func number))
  stages_told place func plan own at others _ _ None_yet all told = subst (λ (list : List StagePosition). Told others list (before place)) (sym (append-nil all))
      told
  stages_told place func plan own at others _ _ (One_more number phases phase rest one) all told =
      let known = known_phase pipeline schedule boxes place func plan own at number phase one in
      let last : Work = record { place = place; func = func; plan = plan; own = own; number = number; owned = known.owned; phase = phase } in
      subst (λ (list : List StagePosition). Told (phases ++ phase ∷ []) list (held boxes.funcs (after_stages pipeline.funcs inputs place func (suc number))))
      (append_assoc all (stages_to place number) (stage_of last ∷ []))
      (told_more phases (all ++ stages_to place number) (held boxes.funcs (after_stages pipeline.funcs inputs place func number)) (stages_told place func plan
      own at others phases number rest all told)
      last known.known (λ k x y p. refl))

  -- ---- from the pixels of some Funcs to those of one more

  same_elsewhere : (place k x y : ℕ) → (k ≡ place → ⊥) → before place k x y ≡ before (suc place) k x y
  unfolding pixels
  same_elsewhere place k x y d =
      let corner = corner_of (box_in (slice_get boxes.funcs k)) in
      sym (ap (λ (b : Bool). cond b (func_plane place (slice_get pipeline.funcs place) inputs (pixels pipeline.funcs inputs place))
      (pixels pipeline.funcs inputs place k) (word.add corner.x x) (word.add corner.y y)) (ne_eqb k place d))

  done_agree : (place : ℕ) (func : Func) → slice_get pipeline.funcs place ≡ Some func
      → Agree (held boxes.funcs (after_stages pipeline.funcs inputs place func (suc (length func.updates)))) (before (suc place))
  unfolding pixels
  done_agree place func found k x y p =
      let corner = corner_of (box_in (slice_get boxes.funcs k)) in
      let earlier = pixels pipeline.funcs inputs place in
      let mine : Option Func → ℕ = λ (own : Option Func). cond (k == place) (func_plane place own inputs earlier) (earlier k) (word.add corner.x x)
      (word.add corner.y y) in
      by_test (k == place) (word.add corner.x x) (word.add corner.y y) ∙ sym (ap mine found)
    where
      by_test : (test : Bool) (a b : ℕ) → cond test (stage place func inputs (pixels pipeline.funcs inputs place) (length func.updates))
          (pixels pipeline.funcs inputs place k) a b
          ≡ cond test (func_plane place (Some func) inputs (pixels pipeline.funcs inputs place)) (pixels pipeline.funcs inputs place k) a b
      by_test true a b = refl
      by_test false a b = refl

  module _ (accepted : IsAccepted pipeline schedule) (is : inferred pipeline schedule ≡ Ok boxes) where
    -- a Func that has no phase has no point at root
    no_point : (place x y : ℕ) → IsNotAtRoot pipeline schedule boxes place → RootPoint pipeline schedule boxes.funcs place x y → ⊥
    no_point place x y not_root p =
        let b = has_box pipeline schedule boxes accepted is place p.own p.box_is in
        let plan = pair_there IsPlan pipeline.funcs schedule.funcs place b.func accepted.plans b.func_is in
        not_root b.func plan.value p.own (record {
          func_is = b.func_is;
          plan_is = plan.is;
          box_is = p.box_is;
          standing = b.standing;
          there =
              b.there;
          placed_is = same b.standing p.standing b.there.standing p.standing_is p.at_root;
        })
      where
        same : (one other : FuncPlacement) → slice_get schedule.standings place ≡ Some one → slice_get schedule.standings place ≡ Some other
            → other.place ≡ standpoints.Root → one.place ≡ standpoints.Root
        same one other e f r = let q : one ≡ other = cc in ap (λ (s : FuncPlacement). s.place) q ∙ r

    passed_agree : (place : ℕ) → IsNotAtRoot pipeline schedule boxes place → Agree (before place) (before (suc place))
    passed_agree place not_root k x y p = elim (cases_eq k place) [
      | inl same ↦ absurd (no_point place x y not_root (subst (λ (n : ℕ). RootPoint pipeline schedule boxes.funcs n x y) same p))
      | inr other ↦ same_elsewhere place k x y other
    ]

    -- ---- the stages of the Func at a place

    abbrev stages_here : ℕ → List StagePosition
    stages_here place = stages_at place (slice_get schedule.standings place) (slice_get pipeline.funcs place) (slice_get boxes.funcs place)

    abbrev so_far : ℕ → List StagePosition
    so_far count = stages_below pipeline schedule boxes count

    stages_root : (place : ℕ) (func : Func) (plan : FuncPlan) (own : SourceBox) → IsAtRoot pipeline schedule boxes place func plan own
        → stages_here place ≡ stages_to place (suc (length func.updates))
    stages_root place func plan own at =
        ap (λ (s : Option FuncPlacement). stages_at place s (slice_get pipeline.funcs place) (slice_get boxes.funcs place)) at.there.standing
        ∙ (ap (λ (f : Option Func). stages_at place (Some at.standing) f (slice_get boxes.funcs place)) at.func_is
        ∙ (ap (λ (b : Option (Option SourceBox)). stages_at place (Some at.standing) (Some func) b) at.box_is
        ∙ ap (λ (p : ComputeLevel). stages_where p func (Some own) place) at.placed_is))

    -- a Func at root with a box has phases
    root_passed : (place : ℕ) (standing : FuncPlacement) (func : Func) (own : SourceBox) → slice_get schedule.standings place ≡ Some standing
        → slice_get boxes.funcs place ≡ Some (Some own)
        → standing.place ≡ standpoints.Root → IsNotAtRoot pipeline schedule boxes place → ⊥
    root_passed place standing func own s b root not_root =
        let box = has_box pipeline schedule boxes accepted is place own b in
        let plan = pair_there IsPlan pipeline.funcs schedule.funcs place box.func accepted.plans box.func_is in
        let same : box.standing ≡ standing = let p = box.there.standing in cc in
        not_root box.func plan.value own (record {
          func_is = box.func_is;
          plan_is = plan.is;
          box_is = b;
          standing = box.standing;
          there = box.there;
          placed_is =
              ap (λ (t : FuncPlacement). t.place) same ∙ root;
        })

    stages_passed : (place : ℕ) → IsNotAtRoot pipeline schedule boxes place → stages_here place ≡ []
    stages_passed place not_root = by_all (slice_get schedule.standings place) (slice_get pipeline.funcs place) (slice_get boxes.funcs place) refl refl
      where
        by_place : (standing : FuncPlacement) (func : Func) (own : Option SourceBox) (at : ComputeLevel) → slice_get schedule.standings place ≡ Some standing
            → slice_get boxes.funcs place ≡ Some own → standing.place ≡ at
            → stages_where at func own place ≡ []
        by_place standing func None standpoints.Root s b e = refl
        by_place standing func (Some own) standpoints.Root s b e = absurd (root_passed place standing func own s b e not_root)
        by_place standing func own standpoints.Inlined s b e = refl
        by_place standing func own (standpoints.At at) s b e = refl
        by_place standing func own standpoints.Nowhere s b e = refl

        by_all : (standing : Option FuncPlacement) (func : Option Func) (own : Option (Option SourceBox)) → slice_get schedule.standings place ≡ standing
            → slice_get boxes.funcs place ≡ own
            → stages_at place standing func own ≡ []
        by_all None func own s b = refl
        by_all (Some standing) None own s b = refl
        by_all (Some standing) (Some func) None s b = refl
        by_all (Some standing) (Some func) (Some own) s b = by_place standing func own standing.place s b refl

    -- ---- all of them

    -- with any work in the place of those that aren't there
    pub funcs_told : (other : Work) (count : ℕ) (phases : List Phase) → AreLowered pipeline schedule boxes count phases
        → Told phases (so_far count) (before count)
    funcs_told other _ _ No_func = record {
      works = λ k. other;
      known = λ k l. absurd (omega (arith, l));
      phase_is = λ k l. absurd (omega (arith, l));
      starts = λ k l. absurd (omega (arith, l));
      ends = λ func x y p. refl;
      stages_are = refl;
      stage_is = λ k l. absurd (omega (arith, l));
    }
    funcs_told other _ _ (Passed place phases rest not_root) =
        subst (λ (list : List StagePosition). Told phases list (before (suc place))) (sym (ap (λ (list : List StagePosition). so_far place ++ list)
        (stages_passed place not_root) ∙ append-nil (so_far place)))
        (told_same phases (so_far place) (before place) (funcs_told other place phases rest) (before (suc place)) (passed_agree place not_root))
    funcs_told other _ _ (Computed place others phases func plan own rest at stages) =
        subst (λ (list : List StagePosition). Told phases list (before (suc place))) (ap (λ (list : List StagePosition). so_far place ++ list)
        (sym (stages_root place func plan own at)))
        (told_same phases (so_far place ++ stages_to place (suc (length func.updates))) (held boxes.funcs (after_stages pipeline.funcs inputs place func
        (suc (length func.updates))))
        (stages_told place func plan own at others phases (suc (length func.updates)) stages (so_far place) (funcs_told other place others rest))
        (before (suc place)) (done_agree place func at.func_is))

module _ (pipeline : Pipeline) (schedule : Schedule) (boxes : Boxes) where
  stage_work : (place : ℕ) (func : Func) (plan : FuncPlan) (own : SourceBox) (others phases : List Phase) (number : ℕ)
      → ArePhasesOf pipeline schedule boxes place func plan own others number phases → 0 < number → Work
  stage_work place func plan own others _ _ None_yet l = absurd (omega (arith, l))
  stage_work place func plan own others _ _ (One_more number phases phase rest one) l = record {
    place = place;
    func = func;
    plan = plan;
    own = own;
    number =
        number;
    owned = λ task x y. false;
    phase = phase;
  }

  -- where there are phases there is some work
  pub some_work : (count last : ℕ) (phases : List Phase) → AreLowered pipeline schedule boxes count phases → length phases ≡ suc last → Work
  some_work _ last _ No_func e = absurd (omega (arith, e))
  some_work _ last _ (Passed place phases rest not_root) e = some_work place last phases rest e
  some_work _ last _ (Computed place others phases func plan own rest at stages) e = stage_work place func plan own others phases (suc (length func.updates))
      stages (omega arith)
