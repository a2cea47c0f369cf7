-- The rule of a board is where tokens come, are cut in two and are put together.
use Rattle.std.proofs.Common.{◌≡◌, ◌≢◌, ℕ, zero, suc, ◌+◌, ◌-◌, ◌<◌, ◌≤◌, false, List, [], ◌∷◌, ◌++◌, drop, take, set, replicate, refl, sym, ap, ◌∙◌, subst}
use Rattle.std.proofs.Common.{⊎_elim, arith, true≢false}
use Rattle.std.specs.Prelude.{slice_index}
use mathlib.Core.Logic.{dite}
use mathlib.Core.Option.{some, none, some-injective, some-ne-none}
use native.Mathlib.Decide.{ℕ_discrete}
use lib.ListN.{get_elem?}
use Rattle.atomic_table.specs.Table.{Splits, Joins, Enters as Comes, Me, step}
use Rattle.atomic_table.proofs.Lists.{at_set, at_snoc}
use Rattle.board.specs.declared.known.SeatKnowledge.{SeatKnowledge}
use Rattle.board.specs.Rule.{known, nothing, times, total, AreWords, AreSeen, Fits, Stands, most_harts, at_start}
use Rattle.board.specs.Steps.{Enters, without_first, first_alone, both}
use Rattle.board.proofs.Counting.{total-set, total-append, times-append, times-here, times-apart}

abbrev counted : ℕ → SeatKnowledge → ℕ
counted hart token = times hart token.counts

-- what is known by nobody is so
nothing-fits : (words : List ℕ) → Fits words nothing
nothing-fits words = record { counts = tt; sights = tt; asked = λ e. absurd (true≢false (sym e)); heard = λ e. absurd (true≢false (sym e)) }

fits-longer : (words : List ℕ) (tokens : List SeatKnowledge) (new : SeatKnowledge) → ((j : ℕ) (token : SeatKnowledge) → get_elem? tokens j ≡ some token → Fits words token)
    → Fits words new
    → (j : ℕ) (token : SeatKnowledge) → get_elem? (tokens ++ new ∷ []) j ≡ some token → Fits words token
fits-longer words tokens new old mine j token at = ⊎_elim (λ e. old j token e) (λ (e : new ≡ token). subst (Fits words) e mine) (at_snoc tokens new token j at)

fits-other : (words : List ℕ) (tokens : List SeatKnowledge) (id : ℕ) (new : SeatKnowledge) → ((j : ℕ) (token : SeatKnowledge) → get_elem? tokens j ≡ some token → Fits words token)
    → Fits words new
    → (j : ℕ) (token : SeatKnowledge) → get_elem? (set tokens id new) j ≡ some token → Fits words token
fits-other words tokens id new old mine j token at =
    ⊎_elim (λ (x : (j ≡ id) × (new ≡ token)). subst (Fits words) x.1 mine) (λ (x : (j ≢ id) × (get_elem? tokens j ≡ some token)). old j token x.1)
    (at_set tokens id j new token at)

-- a token comes that knows nothing
pub comes : (harts : ℕ) (words : List ℕ) (tokens : List SeatKnowledge) → Stands harts words tokens → Stands harts words (tokens ++ nothing ∷ [])
comes harts words tokens stands = record {
  places = stands.places;
  few = stands.few;
  fits = fits-longer words tokens nothing stands.fits (nothing-fits words);
  once = λ hart. let t = total-append (counted hart) tokens (nothing ∷ []) in let o = stands.once hart in omega (arith, t, o);
  none = λ hart beyond. let t = total-append (counted hart) tokens (nothing ∷ []) in let o = stands.none hart beyond in omega (arith, t, o);
  rest = stands.rest;
  stop = stands.stop;
}

-- a token is cut in two
pub divides : (harts : ℕ) (words : List ℕ) (tokens : List SeatKnowledge) (id : ℕ) (old left right : SeatKnowledge) → Stands harts words tokens → get_elem? tokens id ≡ some old
    → ((hart : ℕ) → counted hart left + counted hart right ≡ counted hart old) → Fits words left → Fits words right
    → Stands harts words (set tokens id left ++ right ∷ [])
divides harts words tokens id old left right stands at same one other =
    let sum : (hart : ℕ) → total (counted hart) (set tokens id left ++ right ∷ []) ≡ total (counted hart) tokens = λ hart.
    let t = total-set (counted hart) tokens id old left at in
    let u = total-append (counted hart) (set tokens id left) (right ∷ []) in
    let s = same hart in
    omega (arith, t, u, s) in record {
      places = stands.places;
      few = stands.few;
      fits = fits-longer words (set tokens id left) right (fits-other words tokens id left stands.fits one) other;
      once = λ hart. let t = sum hart in let o = stands.once hart in omega (arith, t, o);
      none = λ hart beyond. sum hart ∙ stands.none hart beyond;
      rest = stands.rest;
      stop = stands.stop;
    }

fits-both : (words : List ℕ) (one other : SeatKnowledge) → Fits words one → Fits words other → Fits words (both one other)
fits-both words one other f g = record {
  counts = words-append words other.counts one.counts g.counts f.counts;
  sights = seen-append words other.sights
      one.sights g.sights f.sights;
  asked = f.asked;
  heard = f.heard;
}
  where
    words-append : (words : List ℕ) (xs ys : List (ℕ × ℕ)) → AreWords words xs → AreWords words ys → AreWords words (xs ++ ys)
    words-append words [] ys a b = b
    words-append words (x ∷ xs) ys a b = (a.0, words-append words xs ys a.1 b)

    seen-append : (words : List ℕ) (xs ys : List (ℕ × ℕ)) → AreSeen words xs → AreSeen words ys → AreSeen words (xs ++ ys)
    seen-append words [] ys a b = b
    seen-append words (x ∷ xs) ys a b = (a.0, seen-append words xs ys a.1 b)

-- two tokens become one
pub unites : (harts : ℕ) (words : List ℕ) (tokens : List SeatKnowledge) (id : ℕ) (old : SeatKnowledge) (other : ℕ) (its : SeatKnowledge) → Stands harts words tokens
    → get_elem? tokens id ≡ some old → ¬ (other ≡ id)
    → get_elem? (set tokens id (both old its)) other ≡ some its
    → Stands harts words (set (set tokens id (both old its)) other nothing)
unites harts words tokens id old other its stands at apart there =
    let theirs : get_elem? tokens other ≡ some its = ⊎_elim (λ (x : (other ≡ id) × (both old its ≡ its)). absurd (apart x.0)) (λ (x : (other ≢ id)
    × (get_elem? tokens other ≡ some its)). x.1) (at_set tokens id other (both old its) its there) in
    let sum : (hart : ℕ) → total (counted hart) (set (set tokens id (both old its)) other nothing) ≡ total (counted hart) tokens = λ hart.
    let t = total-set (counted hart) tokens id old (both old its) at in
    let u = total-set (counted hart) (set tokens id (both old its)) other its nothing there in
    let s = times-append hart its.counts old.counts in
    omega (arith, t, u, s) in record {
      places = stands.places;
      few = stands.few;
      fits = fits-other words (set tokens id (both old its)) other nothing (fits-other words tokens id (both old its) stands.fits (fits-both words old its
          (stands.fits id old at) (stands.fits other its theirs))) (nothing-fits words);
      once = λ hart. let t = sum hart in let o = stands.once hart in omega (arith, t, o);
      none = λ hart beyond. sum hart ∙ stands.none hart beyond;
      rest = stands.rest;
      stop = stands.stop;
    }

-- what is known by one token that was made of two, is known by each
pub of-both : (words : List ℕ) (one other : SeatKnowledge) → Fits words (both one other) → Fits words one × AreWords words other.counts × AreSeen words other.sights
of-both words one other f =
    let c = words-parts words other.counts one.counts f.counts in
    let s = seen-parts words other.sights one.sights f.sights in
    (record { counts = c.1; sights = s.1; asked = f.asked; heard = f.heard }, c.0, s.0)
  where
    words-parts : (words : List ℕ) (xs ys : List (ℕ × ℕ)) → AreWords words (xs ++ ys) → AreWords words xs × AreWords words ys
    words-parts words [] ys a = (tt, a)
    words-parts words (x ∷ xs) ys a = let r = words-parts words xs ys a.1 in ((a.0, r.0), r.1)

    seen-parts : (words : List ℕ) (xs ys : List (ℕ × ℕ)) → AreSeen words (xs ++ ys) → AreSeen words xs × AreSeen words ys
    seen-parts words [] ys a = (tt, a)
    seen-parts words (x ∷ xs) ys a = let r = seen-parts words xs ys a.1 in ((a.0, r.0), r.1)

-- a token of one seat knows its word
pub knows-word : (words : List ℕ) (counts : List (ℕ × ℕ)) (hart number : ℕ) → counts ≡ (hart, number) ∷ [] → AreWords words counts
    → slice_index words hart ≡ number
knows-word words counts hart number is a = (subst (AreWords words) is a).0

-- a value that is at a place is the one that is read there
pub read-at : (xs : List ℕ) (i x : ℕ) → get_elem? xs i ≡ some x → slice_index xs i ≡ x
read-at [] i x e = absurd (some-ne-none x (sym e))
read-at (a ∷ xs) zero x e = some-injective a x e
read-at (a ∷ xs) (suc i) x e = read-at xs i x e

-- ---- the start

zeros : (n i : ℕ) → slice_index (replicate n 0) i ≡ 0
zeros zero i = refl
zeros (suc n) zero = refl
zeros (suc n) (suc i) = zeros n i

start-words : (hart count : ℕ) → AreWords (replicate 9 0) (at_start hart count)
start-words hart zero = tt
start-words hart (suc count) = (zeros 9 hart, start-words (suc hart) count)

start-before : (which hart count : ℕ) → which < hart → times which (at_start hart count) ≡ 0
start-before which hart zero below = refl
start-before which hart (suc count) below = times-apart which (hart, 0) (at_start (suc hart) count) (λ e. let q = e in omega (arith))
    ∙ start-before which (suc hart) count (omega (arith))

start-once : (which hart count : ℕ) → times which (at_start hart count) ≤ 1
start-once which hart zero = omega (arith)
start-once which hart (suc count) =
    dite (ℕ_discrete hart which)
    (λ e. let t = times-here which (hart, 0) (at_start (suc hart) count) e in let z = start-before which (suc hart) count (let q = e in omega (arith)) in
    omega (arith, t, z))
    (λ n. let t = times-apart which (hart, 0) (at_start (suc hart) count) n in let z = start-once which (suc hart) count in omega (arith, t, z))

start-beyond : (which hart count : ℕ) → hart + count ≤ which → times which (at_start hart count) ≡ 0
start-beyond which hart zero beyond = refl
start-beyond which hart (suc count) beyond = times-apart which (hart, 0) (at_start (suc hart) count) (λ e. let q = e in omega (arith))
    ∙ start-beyond which (suc hart) count (omega (arith))

-- at the start the rule is
pub begins : (harts : ℕ) → harts ≤ most_harts → Stands harts (replicate 9 0) (known (at_start 0 harts) [] false false ∷ [])
begins harts few = record {
  places = refl;
  few = few;
  fits = one;
  once = λ hart. let t = start-once hart 0 harts in omega (arith, t);
  none = λ hart beyond. let t = start-beyond hart 0 harts (omega (arith)) in omega (arith, t);
  rest = λ hart beyond below. zeros 9 hart;
  stop = omega (arith);
}
  where
    one : (id : ℕ) (token : SeatKnowledge) → get_elem? (known (at_start 0 harts) [] false false ∷ []) id ≡ some token → Fits (replicate 9 0) token
    one zero token e = subst (Fits (replicate 9 0)) (some-injective _ _ e) (record {
      counts = start-words 0 harts;
      sights = tt;
      asked =
          λ a. absurd (true≢false (sym a));
      heard = λ a. absurd (true≢false (sym a));
    })
    one (suc id) token e = absurd (some-ne-none token (sym e))

-- the first of the harts that are left, and those after it
pub start-first : (hart harts : ℕ) → hart < harts → at_start hart (harts - hart) ≡ (hart, 0) ∷ at_start (suc hart) (harts - suc hart)
start-first hart harts below = ap (at_start hart) (let e : harts - hart ≡ suc (harts - suc hart) = omega (arith) in e)

-- ---- as the table asks for it

module _ {S : Type 0} (harts : ℕ) where
  pub enters : (slots : ℕ) (first : Me S SeatKnowledge) (word : ℕ)
      → Comes {S = S} (λ s. Stands harts s.words s.views) slots word (λ n w. Enters (step slots word 0 0 none) first n (w, []))
  enters slots first word s stands len bound = (nothing, comes harts s.words s.views stands, refl)

  pub deals-glance : (id : ℕ) (token : SeatKnowledge) → Splits {S = S} (λ s. Stands harts s.words s.views) id token token nothing
  deals-glance id token s stands at = divides harts s.words s.views id token token nothing stands at (λ hart. omega (arith)) (stands.fits id token at)
      (nothing-fits s.words)

  pub deals-seat : (id : ℕ) (token : SeatKnowledge) → Splits {S = S} (λ s. Stands harts s.words s.views) id token (without_first token) (first_alone token)
  deals-seat id token s stands at =
      let f = stands.fits id token at in
      divides harts s.words s.views id token (without_first token) (first_alone token) stands at (λ hart. cut-counts hart token.counts)
      (record { counts = rest-words s.words token.counts f.counts; sights = f.sights; asked = f.asked; heard = f.heard })
      (record {
        counts = first-word s.words token.counts f.counts;
        sights = tt;
        asked = λ a. absurd (true≢false (sym a));
        heard =
            λ a. absurd (true≢false (sym a));
      })
    where
      cut-counts : (hart : ℕ) (counts : List (ℕ × ℕ)) → times hart (drop 1 counts) + times hart (take 1 counts) ≡ times hart counts
      cut-counts hart [] = refl
      cut-counts hart (x ∷ xs) = omega (arith)

      rest-words : (words : List ℕ) (counts : List (ℕ × ℕ)) → AreWords words counts → AreWords words (drop 1 counts)
      rest-words words [] a = tt
      rest-words words (x ∷ xs) a = a.1

      first-word : (words : List ℕ) (counts : List (ℕ × ℕ)) → AreWords words counts → AreWords words (take 1 counts)
      first-word words [] a = tt
      first-word words (x ∷ xs) a = (a.0, tt)

  pub gathers : (id : ℕ) (token : SeatKnowledge) (other : ℕ) (its : SeatKnowledge) → Joins {S = S} (λ s. Stands harts s.words s.views) id token other its (both token its)
      nothing
  gathers id token other its s stands at apart there = unites harts s.words s.views id token other its stands at apart there
