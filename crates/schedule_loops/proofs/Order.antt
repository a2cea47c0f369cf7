-- Every nest that lines make of the loops of an update visits the reduction points of each slice in their order.
use Rattle.std.proofs.Common.{◌≡◌, ℕ, ◌+◌, ◌*◌, ◌/◌, ◌%◌, ◌<◌, ◌≤◌, Bool, true, false, cond, List, [], ◌∷◌, ◌++◌, length, map, Some, None, refl, sym, ap, subst}
use Rattle.std.proofs.Common.{◌∙◌, arith, inl, inr}
use Rattle.std.specs.Prelude.{◌&&◌, ◌||◌, nat_lt, filter}
use Rattle.std.proofs.lemmas.Bool.{ltb-true}
use Rattle.std.proofs.lemmas.Nat.{div-mul-add, mod-mul-add}
use Rattle.std.proofs.Math.Nat.{mod-lt, div-lt_iff_lt-mul}
use Rattle.schedule_lines.specs.declared.lines.SplitLine.{SplitLine}
use Rattle.schedule_lines.specs.declared.stages.Loop.{Loop}
use Rattle.schedule_lines.specs.declared.stages.LoopId.{LoopId}
use Rattle.schedule_lines.specs.declared.stages.LoopId.TheVariants as ids
use Rattle.schedule_lines.specs.declared.stages.Split.{Split}
use Rattle.schedule_lines.specs.declared.stages.Tail.{Tail}
use Rattle.schedule_lines.specs.declared.stages.Tail.TheVariants as tails
use Rattle.schedule_lines.specs.Directives.{same_id, parts, is_shift}
use Rattle.schedule_lines.specs.Making.{total, bare, IsSplit, IsMade}
use Rattle.schedule_loops.specs.Visits.{Values, with, outer_extent, more_counts, counts_from, upto, nest, whole_of, split_body, split_bodies}
use Rattle.schedule_loops.proofs.Ids.{cases_id, same_id-self, is_old, outer_new, inner_new, swapped_id, with_same, with_other}
use Rattle.schedule_loops.proofs.Nesting.{has_id, has_other, has_same, InRange, filter-nest}
use Rattle.schedule_loops.proofs.Splitting.{OnOld, counts_old, outer_extent_reaches, parted_nest}
use Rattle.schedule_loops.proofs.Selecting.{is_one, IsAmong, is_free, Only, among_has, moved_nest, only_moved}
use Rattle.schedule_loops.proofs.Making.{Stays, by_making, Sound, sound_stays, split_by, IsInner, IsOuter, IsNeither, part_of, total-append, total_parts}
use Rattle.schedule_loops.proofs.Making.{parts_inner, parts_neither, counts-more, bodies-more, bodies_on_old, is_old_has, bare_total, own_apart, apart_from}

pub guard_from : (tail : Tail) → is_shift tail ≡ false → tail ≡ tails.Guard
guard_from tails.Guard e = refl
guard_from tails.Shift e = cc

pub quotient_below : (n extent factor : ℕ) → 1 ≤ factor → n < extent → n / factor < outer_extent extent factor
quotient_below n extent factor some l = (div-lt_iff_lt-mul {k = factor} {x = n} {y = outer_extent extent factor} some).1
    (omega (arith, outer_extent_reaches extent factor some))

-- the loops of a split
abbrev pub inner_part : Loop → ℕ → SplitLine → Loop
inner_part stage_loop place line = record {
  id = ids.Inner place;
  name = line.inner;
  variable = stage_loop.variable;
  inner_of = Some line.factor;
  is_from_shift =
      stage_loop.is_from_shift || is_shift line.tail;
  marked = None;
}

abbrev pub outer_part : Loop → ℕ → SplitLine → Loop
outer_part stage_loop place line = record {
  id = ids.Outer place;
  name = line.outer;
  variable = stage_loop.variable;
  inner_of = None;
  is_from_shift = stage_loop.is_from_shift
      || is_shift line.tail;
  marked = None;
}

-- A test of loops that parts pass only if what is split passes it, and is not shifted.
pub record IsPassedOn (is_update : Bool) (test : Loop → Bool) : Type 0 where
  pub bare_is : (stage_loop : Loop) → test stage_loop ≡ test (bare stage_loop)
  pub inner : (stage_loop : Loop) (place : ℕ) (line : SplitLine) (id : LoopId) → IsSplit is_update line → IsAmong test (parts stage_loop place line) id
      → (test stage_loop ≡ true) × (line.tail ≡ tails.Guard)

module _ (A : Type 0) (extents : Values) (seen : Values → A) (keep : A → Bool) where
  abbrev body_of : List Split → Values → List A
  body_of splits = split_bodies extents 0 splits (λ values. seen values ∷ [])

  abbrev counts_of : List Split → Values
  counts_of splits = counts_from extents 0 splits

  -- what is kept is in order only where loops that pass the test have given values
  pub record Selects (test : Loop → Bool) (loops : List Loop) (splits : List Split) : Type 0 where
    pub given : Values
    pub range : (id : LoopId) → IsAmong test loops id → given id < counts_of splits id
    pub only : Only test (counts_of splits) loops given (λ values. filter keep (body_of splits values))

  -- the values of the parts of a number
  abbrev parted_given : Values → ℕ → Split → Values
  parted_given given place split = with (ids.Inner place) (given split.of % split.factor) (with (ids.Outer place) (given split.of / split.factor) given)

  given_inner : (given : Values) (place : ℕ) (split : Split) → parted_given given place split (ids.Inner place) ≡ given split.of % split.factor
  given_inner given place split = with_same (ids.Inner place) (given split.of % split.factor) (with (ids.Outer place) (given split.of / split.factor) given)

  given_outer : (given : Values) (place : ℕ) (split : Split) → parted_given given place split (ids.Outer place) ≡ given split.of / split.factor
  given_outer given place split = with_same (ids.Outer place) (given split.of / split.factor) given

  given_old : (given : Values) (place : ℕ) (split : Split) (id : LoopId) → same_id (ids.Inner place) id ≡ false → same_id (ids.Outer place) id ≡ false
      → parted_given given place split id ≡ given id
  given_old given place split id d f =
      with_other (ids.Inner place) (given split.of % split.factor) (with (ids.Outer place) (given split.of / split.factor) given) id
      (swapped_id (ids.Inner place) id d)
      ∙ with_other (ids.Outer place) (given split.of / split.factor) given id (swapped_id (ids.Outer place) id f)

  module _ (is_update : Bool) (test : Loop → Bool) (passed_on : IsPassedOn is_update test)
      (before : List Loop) (stage_loop : Loop) (after : List Loop) (splits : List Split) (line : SplitLine)
      (is : IsSplit is_update line) (sound : Sound (before ++ stage_loop ∷ after) splits) where
    abbrev place : ℕ
    place = length splits

    abbrev split : Split
    split = split_by stage_loop line

    abbrev old_loops : List Loop
    old_loops = before ++ stage_loop ∷ after

    abbrev new_loops : List Loop
    new_loops = before ++ (parts stage_loop (length splits) line ++ after)

    abbrev counts : Values
    counts = counts_of splits

    abbrev new_counts : Values
    new_counts = more_counts counts place split

    own_old : is_old place stage_loop.id ≡ true
    own_old = sound.old stage_loop.id (omega (
      arith,
      total-append (has_id stage_loop.id) before (stage_loop ∷ after),
      has_same stage_loop,
    ))

    count_inner : new_counts (ids.Inner place) ≡ line.factor
    count_inner = with_same (ids.Inner place) line.factor (with (ids.Outer place) (outer_extent (counts stage_loop.id) line.factor) counts)

    count_outer : new_counts (ids.Outer place) ≡ outer_extent (counts stage_loop.id) line.factor
    count_outer = with_same (ids.Outer place) (outer_extent (counts stage_loop.id) line.factor) counts

    -- a loop that passes the test is a part, and then so does the loop that is split, or was there
    own_among : (id : LoopId) → IsAmong test (parts stage_loop place line) id → IsAmong test old_loops stage_loop.id
    own_among id there =
        let passed : test stage_loop ≡ true = (passed_on.inner stage_loop place line id is there).0 in
        let one : is_one test stage_loop.id stage_loop ≡ 1 = rw (same_id-self stage_loop.id, passed) refl in
        omega (arith, total-append (is_one test stage_loop.id) before (stage_loop ∷ after))

    -- a new loop that passes the test is a part
    new_among : (id : LoopId) → is_old place id ≡ false → IsAmong test new_loops id → IsAmong test (parts stage_loop place line) id
    new_among id new there =
        omega (arith, total_parts (is_one test id) before stage_loop after place line, among_has test id old_loops, is_old_has place old_loops id sound.old new)

    -- one that is no part was there, and is not the one that is split
    old_among : (id : LoopId) → same_id (ids.Inner place) id ≡ false → same_id (ids.Outer place) id ≡ false → IsAmong test new_loops id
        → IsAmong test old_loops id
    old_among id d f there =
        omega (arith, total_parts (is_one test id) before stage_loop after place line, among_has test id (parts stage_loop place line), parts_neither stage_loop place line id d f)

    not_own : (id : LoopId) → same_id (ids.Inner place) id ≡ false → same_id (ids.Outer place) id ≡ false → IsAmong test new_loops id
        → same_id id stage_loop.id ≡ false
    not_own id d f there = elim (cases_id id stage_loop.id) [
      | inl e ↦
          let none : total (has_id id) before + total (has_id id) after ≡ 0 = subst (λ (i : LoopId). total (has_id i) before + total (has_id i) after ≡ 0)
          (sym e) (own_apart before stage_loop after sound.unique) in
          absurd (omega (
            arith,
            total-append (is_one test id) before (parts stage_loop place line ++ after),
            total-append (is_one test id) (parts stage_loop place line)
                after,
            among_has test id (parts stage_loop place line),
            among_has test id before,
            among_has test id after,
            parts_neither stage_loop place line id d f,
          ))
      | inr o ↦ o
    ]

    -- the values of the parts put together are those of loops that were there
    pub whole_in_range : (values : Values) → InRange new_counts new_loops values → whole_of counts place split values < counts stage_loop.id
        → InRange counts old_loops (with stage_loop.id (whole_of counts place split values) values)
    whole_in_range values in_range l id there = elim (cases_id id stage_loop.id) [
      | inl e ↦ subst (λ (i : LoopId). with stage_loop.id (whole_of counts place split values) values i < counts i)
          (sym e)
          (omega (arith, with_same stage_loop.id (whole_of counts place split values) values))
      | inr d ↦
          let none : has_id id stage_loop ≡ 0 = has_other id stage_loop (swapped_id id stage_loop.id d) in
          let r : values id < new_counts id = in_range id (omega (arith, total_parts (has_id id) before stage_loop after place line)) in
          omega (arith, with_other stage_loop.id (whole_of counts place split values) values id d, counts_old A counts place split id (sound.old id there))
    ]

    whole_guard : (values : Values) → line.tail ≡ tails.Guard → values (ids.Outer place) * line.factor + values (ids.Inner place) ≡ whole_of counts place split
        values
    whole_guard values guard = rw guard refl

    kept_cond : (test : Bool) (xs : List A) → (test ≡ true → filter keep xs ≡ []) → filter keep (cond test xs []) ≡ []
    kept_cond true xs none = none refl
    kept_cond false xs none = refl

    selects_parted : Selects test old_loops splits → Selects test new_loops (splits ++ split_by stage_loop line ∷ [])
    selects_parted sel =
        let counts_are : counts_of (splits ++ split_by stage_loop line ∷ []) ≡ new_counts = counts-more splits extents 0 (length splits) split (omega arith) in
        let bodies_are : body_of (splits ++ split_by stage_loop line ∷ []) ≡ split_body counts place split (body_of splits) = bodies-more splits extents 0
        (length splits) split (λ values. seen values ∷ []) (omega arith) in
        let given = parted_given sel.given place split in
        let range : (id : LoopId) → IsAmong test new_loops id → given id < new_counts id = λ id there. elim (part_of place id) [
          | IsInner e ↦ subst (λ (i : LoopId). given i < new_counts i) (sym e) (omega (
            arith,
            given_inner sel.given place split,
            count_inner,
            mod-lt
                (sel.given stage_loop.id) is.some,
          ))
          | IsOuter e ↦
              let g : sel.given stage_loop.id < counts stage_loop.id = sel.range stage_loop.id (own_among (ids.Outer place) (new_among (ids.Outer place) (outer_new place)
              (subst (IsAmong test new_loops) e there))) in
              subst (λ (i : LoopId). given i < new_counts i) (sym e) (omega (
                arith,
                given_outer sel.given place split,
                count_outer,
                quotient_below
                    (sel.given stage_loop.id) (counts stage_loop.id) line.factor is.some g,
              ))
          | IsNeither d f ↦
              omega (
                arith,
                given_old sel.given place split id d f,
                sel.range id (old_among id d f there),
                counts_old A counts place split id
                    (sound.old id (omega (arith, among_has test id old_loops, old_among id d f there))),
              )
        ] in
        let only : Only test new_counts new_loops given (λ values. filter keep (split_body counts place split (body_of splits) values)) =
        λ values in_range id there differs.
        kept_cond (nat_lt (whole_of counts place split values) (counts stage_loop.id)) (body_of splits (with stage_loop.id (whole_of counts place split values) values))
        (λ below.
        let l : whole_of counts place split values < counts stage_loop.id = ltb-true (whole_of counts place split values) (counts stage_loop.id) below in
        let whole_values : Values = with stage_loop.id (whole_of counts place split values) values in
        let r : InRange counts old_loops whole_values = whole_in_range values in_range l in
        elim (part_of place id) [
          | IsInner e ↦
              let among = new_among (ids.Inner place) (inner_new place) (subst (IsAmong test new_loops) e there) in
              let li : values (ids.Inner place) < line.factor = omega (
                arith,
                count_inner,
                in_range (ids.Inner place)
                    (omega (arith, among_has test (ids.Inner place) new_loops, subst (IsAmong test new_loops) e there)),
              ) in
              sel.only whole_values r stage_loop.id (own_among (ids.Inner place) among) (λ same.
              let w : values (ids.Outer place) * line.factor + values (ids.Inner place) ≡ sel.given stage_loop.id = whole_guard values (passed_on.inner stage_loop place line
              (ids.Inner place) is among).1 ∙ sym (with_same stage_loop.id (whole_of counts place split values) values) ∙ same in
              differs (subst (λ (i : LoopId). values i ≡ given i) (sym e)
              (sym (mod-mul-add (values (ids.Outer place)) line.factor (values (ids.Inner place)) li) ∙ ap (λ (n : ℕ). n % line.factor) w
              ∙ sym (given_inner sel.given place split))))
          | IsOuter e ↦
              let among = new_among (ids.Outer place) (outer_new place) (subst (IsAmong test new_loops) e there) in
              let li : values (ids.Inner place) < line.factor = omega (
                arith,
                count_inner,
                in_range (ids.Inner place)
                    (omega (
                      arith,
                      total-append (has_id (ids.Inner place)) before (parts stage_loop place line ++ after),
                      total-append (has_id (ids.Inner place))
                          (parts stage_loop place line) after,
                      parts_inner stage_loop place line,
                    )),
              ) in
              sel.only whole_values r stage_loop.id (own_among (ids.Outer place) among) (λ same.
              let w : values (ids.Outer place) * line.factor + values (ids.Inner place) ≡ sel.given stage_loop.id = whole_guard values (passed_on.inner stage_loop place line
              (ids.Outer place) is among).1 ∙ sym (with_same stage_loop.id (whole_of counts place split values) values) ∙ same in
              differs (subst (λ (i : LoopId). values i ≡ given i) (sym e)
              (sym (div-mul-add (values (ids.Outer place)) line.factor (values (ids.Inner place)) li) ∙ ap (λ (n : ℕ). n / line.factor) w
              ∙ sym (given_outer sel.given place split))))
          | IsNeither d f ↦
              sel.only whole_values r id (old_among id d f there) (λ same.
              differs (sym (with_other stage_loop.id (whole_of counts place split values) values id (not_own id d f there)) ∙ same
              ∙ sym (given_old sel.given place split id d f)))
        ]) in
        record {
          given = given;
          range = subst (λ (c : Values). (id : LoopId) → IsAmong test new_loops id → given id < c id) (sym counts_are) range;
          only = subst (λ (c : Values). Only test c new_loops given (λ values. filter keep (body_of (splits ++ split_by stage_loop line ∷ []) values)))
              (sym counts_are)
              (subst (λ (b : Values → List A). Only test new_counts new_loops given (λ values. filter keep (b values))) (sym bodies_are) only);
        }

  -- ---- through all lines

  -- whole variables alone are read, and what is kept has given values there
  pub record Begins (test : Loop → Bool) (start : List Loop) (given : Values) : Type 0 where
    pub sound : Sound start []
    pub range : (id : LoopId) → IsAmong test start id → given id < extents id
    pub only : Only test extents start given (λ values. filter keep (seen values ∷ []))

  pub record Settled (test : Loop → Bool) (loops : List Loop) (splits : List Split) : Type 0 where
    pub sound : Sound loops splits
    pub selects : Selects test loops splits

  pub settled_stays : (is_update : Bool) (test : Loop → Bool) (start : List Loop) (given : Values) → IsPassedOn is_update test → Begins test start given
      → Stays is_update start (Settled test)
  settled_stays is_update test start given passed_on begins = record {
    begun = record { sound = begins.sound; selects = record { given = given; range = begins.range; only = begins.only } };
    parted = λ before stage_loop after splits line is settled. record {
      sound = (sound_stays is_update start begins.sound).parted before stage_loop after splits line is settled.sound;
      selects = selects_parted is_update test passed_on before stage_loop after splits line is settled.sound
          settled.selects;
    };
    marked = λ loops new splits same settled.
        let ones : (id : LoopId) → total (is_one test id) new ≡ total (is_one test id) loops = λ id. bare_total (is_one test id)
        (λ stage_loop. ap (λ (b : Bool). cond (same_id stage_loop.id id && b) 1 0) (passed_on.bare_is stage_loop)) new
        loops same in
        record {
          sound = (sound_stays is_update start begins.sound).marked loops new splits same settled.sound;
          selects = record {
            given = settled.selects.given;
            range = λ id there. settled.selects.range id (omega (arith, ones id));
            only = λ values in_range id there d.
                settled.selects.only values (λ i l. in_range i (omega (arith, bare_total (has_id i) (λ stage_loop. refl) new loops same))) id (omega (arith, ones id))
                d;
          };
        };
    moved = λ loops new splits same order settled. record {
      sound = (sound_stays is_update start begins.sound).moved loops new splits same order settled.sound;
      selects = record {
        given = settled.selects.given;
        range = λ id there. settled.selects.range id (omega (arith, same (is_one test id)));
        only = only_moved test (counts_of splits) settled.selects.given loops new (λ values. filter keep (body_of splits values)) same settled.selects.only;
      };
    };
  }

  leaf_on_old : ((one other : Values) → ((id : LoopId) → is_old 0 id ≡ true → one id ≡ other id) → seen one ≡ seen other) → OnOld 0 (λ values. seen values ∷ [])
  leaf_on_old whole one other same = ap (λ (a : A). a ∷ []) (whole one other same)

  -- What is kept of the visits is what is kept of those of the first loops.
  pub record Ordered (start : List Loop) (loops : List Loop) (splits : List Split) : Type 0 where
    pub settled : Settled is_free loops splits
    pub same : (values : Values) → filter keep (nest (counts_of splits) loops (body_of splits) values)
        ≡ filter keep (nest extents start (λ v. seen v ∷ []) values)

  nest_bare : (counts : Values) (new loops : List Loop) (body : Values → List A) → map bare new ≡ map bare loops → (values : Values)
      → nest counts new body values ≡ nest counts loops body values
  nest_bare counts [] [] body e values = refl
  nest_bare counts [] (y ∷ ys) body e values = cc
  nest_bare counts (x ∷ xs) [] body e values = cc
  nest_bare counts (x ∷ xs) (y ∷ ys) body e values =
      let one : bare x ≡ bare y = cc in
      let rest : map bare xs ≡ map bare ys = cc in
      let id : x.id ≡ y.id = ap (λ (l : Loop). l.id) one in
      ap (λ (i : LoopId). nest counts xs (λ outer. upto (counts i) (λ iteration. body (with i iteration outer))) values) id
      ∙ nest_bare counts xs ys (λ outer. upto (counts y.id) (λ iteration. body (with y.id iteration outer))) rest values

  pub ordered_stays : (start : List Loop) (given : Values) → IsPassedOn true is_free → Begins is_free start given
      → ((one other : Values) → ((id : LoopId) → is_old 0 id ≡ true → one id ≡ other id) → seen one ≡ seen other) → Stays true start (Ordered start)
  ordered_stays start given passed_on begins whole =
      let settled : Stays true start (Settled is_free) = settled_stays true is_free start given passed_on begins in
      let on : (splits : List Split) → OnOld (length splits) (body_of splits) = λ splits. bodies_on_old splits extents 0 (length splits) (λ values. seen values
      ∷ []) (omega arith) (leaf_on_old whole) in
      record {
        begun = record { settled = settled.begun; same = λ values. refl };
        parted = λ before stage_loop after splits line is ordered. record {
          settled = settled.parted before stage_loop after splits line is ordered.settled;
          same = λ values.
              let place = length splits in
              let sound : Sound (before ++ stage_loop ∷ after) splits = ordered.settled.sound in
              let none = own_apart before stage_loop after sound.unique in
              let new_loops = before ++ (parts stage_loop (length splits) line ++ after) in
              let counts_are : counts_of (splits ++ split_by stage_loop line ∷ []) ≡ more_counts (counts_of splits) (length splits) (split_by stage_loop line) =
              counts-more splits extents 0 (length splits) (split_by stage_loop line) (omega arith) in
              let bodies_are : body_of (splits ++ split_by stage_loop line ∷ []) ≡ split_body (counts_of splits) (length splits) (split_by stage_loop line) (body_of splits) =
              bodies-more splits extents 0 (length splits) (split_by stage_loop line) (λ values. seen values ∷ []) (omega arith) in
              ap (λ (c : Values). filter keep (nest c new_loops (body_of (splits ++ split_by stage_loop line ∷ [])) values)) counts_are
              ∙ ap (λ (b : Values → List A). filter keep (nest (more_counts (counts_of splits) (length splits) (split_by stage_loop line)) new_loops b values))
              bodies_are
              ∙ ap (filter keep) (parted_nest A (counts_of splits) (length splits) (split_by stage_loop line) before after (inner_part stage_loop (length splits) line)
              (outer_part stage_loop (length splits) line) stage_loop (body_of splits)
              (record { inner_is = refl; outer_is = refl; own_is = refl })
              (apart_from (length splits) stage_loop.id before (λ id there. sound.old id (omega (arith, total-append (has_id id) before (stage_loop ∷ after))))
              (omega (arith, none)))
              (apart_from (length splits) stage_loop.id after (λ id there. sound.old id (omega (arith, total-append (has_id id) before (stage_loop ∷ after))))
              (omega (arith, none)))
              (guard_from line.tail is.unshifted) is.some (on splits) values)
              ∙ ordered.same values;
        };
        marked = λ loops new splits same ordered. record {
          settled = settled.marked loops new splits same ordered.settled;
          same = λ values. ap (filter keep) (nest_bare (counts_of splits) new loops (body_of splits) same values) ∙ ordered.same values;
        };
        moved = λ loops new splits same order ordered. record {
          settled = settled.moved loops new splits same order ordered.settled;
          same = λ values.
              let sel = ordered.settled.selects in
              filter-nest keep (counts_of splits) new (body_of splits) values
              ∙ moved_nest (counts_of splits) sel.given loops new (λ v. filter keep (body_of splits v)) same order ordered.settled.sound.unique
              (λ one other all. ap (filter keep) (on splits one other (λ id old. all id))) sel.range sel.only values
              ∙ sym (filter-nest keep (counts_of splits) loops (body_of splits) values)
              ∙ ordered.same values;
        };
      }

  -- Every nest that lines make keeps what the first nest keeps, in the same order.
  pub same_order : {start loops : List Loop} {splits : List Split} (given : Values) → IsPassedOn true is_free → Begins is_free start given
      → ((one other : Values) → ((id : LoopId) → is_old 0 id ≡ true → one id ≡ other id) → seen one ≡ seen other)
      → IsMade true start loops splits → (values : Values) → filter keep (nest (counts_of splits) loops (body_of splits) values)
      ≡ filter keep (nest extents start (λ v. seen v ∷ []) values)
  same_order {start} given passed_on begins whole made values = (by_making (Ordered start) (ordered_stays start given passed_on begins whole) made).same values

  -- ---- what is never filter

  pub record Quiet (loops : List Loop) (splits : List Split) : Type 0 where
    pub sound : Sound loops splits
    pub none : (values : Values) → InRange (counts_of splits) loops values → filter keep (body_of splits values) ≡ []

  quiet_cond : (test : Bool) (xs : List A) → (test ≡ true → filter keep xs ≡ []) → filter keep (cond test xs []) ≡ []
  quiet_cond true xs none = none refl
  quiet_cond false xs none = refl

  pub quiet_stays : (is_update : Bool) (test : Loop → Bool) (start : List Loop) → IsPassedOn is_update test → Quiet start [] → Stays is_update start Quiet
  quiet_stays is_update test start passed_on begun = record {
    begun = begun;
    parted = λ before stage_loop after splits line is quiet. record {
      sound = (sound_stays is_update start begun.sound).parted before stage_loop after splits line is quiet.sound;
      none =
          let counts_are : counts_of (splits ++ split_by stage_loop line ∷ []) ≡ more_counts (counts_of splits) (length splits) (split_by stage_loop line) =
          counts-more splits extents 0 (length splits) (split_by stage_loop line) (omega arith) in
          let bodies_are : body_of (splits ++ split_by stage_loop line ∷ []) ≡ split_body (counts_of splits) (length splits) (split_by stage_loop line) (body_of splits) =
          bodies-more splits extents 0 (length splits) (split_by stage_loop line) (λ values. seen values ∷ [])
          (omega arith) in
          let none : (values : Values) → InRange (more_counts (counts_of splits) (length splits) (split_by stage_loop line)) (before ++ (parts stage_loop (length splits) line
          ++ after)) values → filter keep (split_body (counts_of splits) (length splits) (split_by stage_loop line) (body_of splits) values) ≡ [] =
          λ values in_range.
          let w = whole_of (counts_of splits) (length splits) (split_by stage_loop line) values in
          quiet_cond (nat_lt (whole_of (counts_of splits) (length splits) (split_by stage_loop line) values) (counts_of splits stage_loop.id))
          (body_of splits (with stage_loop.id (whole_of (counts_of splits) (length splits) (split_by stage_loop line) values) values)) (λ below.
          quiet.none (with stage_loop.id (whole_of (counts_of splits) (length splits) (split_by stage_loop line) values)
          values)
          (whole_in_range is_update test passed_on before stage_loop after splits line is quiet.sound values in_range
          (ltb-true (whole_of (counts_of splits) (length splits) (split_by stage_loop line) values) (counts_of splits stage_loop.id) below))) in
          subst (λ (c : Values). (values : Values) → InRange c (before ++ (parts stage_loop (length splits) line ++ after)) values
          → filter keep (body_of (splits ++ split_by stage_loop line ∷ []) values) ≡ []) (sym counts_are)
          (subst (λ (b : Values → List A). (values : Values) → InRange (more_counts (counts_of splits) (length splits) (split_by stage_loop line)) (before
          ++ (parts stage_loop (length splits) line ++ after)) values → filter keep (b values) ≡ []) (sym bodies_are)
          none);
    };
    marked = λ loops new splits same quiet. record {
      sound = (sound_stays is_update start begun.sound).marked loops new splits same quiet.sound;
      none = λ values in_range. quiet.none values (λ i l. in_range i (omega (arith, bare_total (has_id i) (λ stage_loop. refl) new loops same)));
    };
    moved = λ loops new splits same order quiet. record {
      sound = (sound_stays is_update start begun.sound).moved loops new splits same order quiet.sound;
      none = λ values in_range. quiet.none values (λ i l. in_range i (omega (arith, same (has_id i))));
    };
  }
