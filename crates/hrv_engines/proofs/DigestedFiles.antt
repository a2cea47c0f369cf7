-- Files that gave their digests one after the other.
use Rattle.std.proofs.Common.{◌≡◌, ◌∙◌, ◌<◌, ◌⊎◌, ℕ, List, arith, inl, sym}
use Rattle.std.specs.Prelude.{IsErrAnd, Result, Some, slice_get}
use Rattle.std.proofs.Math.ListN.{set}
use Rattle.std.specs.String.{string_bytes}
use Rattle.sha2.specs.Hashers.{Holds256}
use Rattle.sha2.specs.declared.Sha256.{Sha256}
use Rattle.hrv_engines.specs.declared.faults.Fault.{Fault}
use Rattle.hrv_engines.specs.declared.faults.Fault.TheVariants.{Refused, File, Memory, Thread}
use Rattle.hrv_engines.specs.Devices.{NamesFailed, NoneFailed}
use Rattle.hrv_engines.specs.Digests.{GaveDigest, digest_of, digests_of}
use Rattle.hrv_engines.specs.Engine.{Reads, Unread}
use Rattle.hrv_engines.proofs.Sources.{GaveFirst, get-set_other, get-set_same, next_well}
use Rattle.hrv_engines.proofs.Steps.{passed, reads_not}

-- a file gave bytes, which a hasher holds
pub record Fed {S : Type 0} (gave : S → List ℕ → S → Type 0) (before now : S) (hasher : Sha256) : Type 0 where
  pub bytes : List ℕ
  pub given : gave before bytes now
  pub held : Holds256 hasher bytes

module _ {S : Type 0} (place_of : S → List ℕ) (failures : S → ℕ) (gave : S → List ℕ → S → Type 0) (ended : S → Type 0) where
  next_failed : (first : List S) (digests : List (List ℕ)) (now : List S) (count : ℕ) (s t : S) (path : List ℕ)
      → GaveFirst (GaveDigest gave ended) first digests now count → slice_get now count ≡ Some s → path ≡ place_of s → failures s < failures t
      → NamesFailed place_of failures (GaveDigest gave ended) (λ a b. ⊥) first (set now count t) path
  next_failed first digests now count s t path g here is there = record {
    place = count;
    before = s;
    after = t;
    is_before = sym (g.rest count (omega arith)) ∙ here;
    is_after = get-set_same now count s t here;
    is_path = is;
    failed_there = inl there;
    earlier = λ sooner a b lt is_a is_b.
        let old = g.each sooner a b lt is_a (sym (get-set_other now count sooner t (λ e. omega arith)) ∙ is_b) in
        (old.0, old.2);
  }

  next_unread : (first : List S) (digests : List (List ℕ)) (now : List S) (count : ℕ) (s t : S) (fault : Fault)
      → GaveFirst (GaveDigest gave ended) first digests now count → NoneFailed failures first now → slice_get now count ≡ Some s
      → Unread (digest_of place_of failures gave ended s t) fault → Unread (digests_of place_of failures gave ended first (set now count t)) fault
  next_unread first digests now count s t (Refused refusal) g well here p = p
  next_unread first digests now count s t (File path) g well here p = next_failed first digests now count s t (string_bytes path) g here p.0 p.1
  next_unread first digests now count s t Memory g well here p = next_well failures first now count s t well here p
  next_unread first digests now count s t Thread g well here p = p

  pub reads_no_digests : {X : Type 0} (value : X → List (List ℕ)) (r : Result X Fault) (first : List S) (digests : List (List ℕ)) (now : List S) (count : ℕ)
      (s t : S) (fault : Fault)
      → IsErrAnd r (λ f. f ≡ fault)
      → GaveFirst (GaveDigest gave ended) first digests now count → NoneFailed failures first now → slice_get now count ≡ Some s
      → Unread (digest_of place_of failures gave ended s t) fault → Reads value (digests_of place_of failures gave ended first (set now count t)) r
  reads_no_digests value r first digests now count s t fault is g well here p =
      let sources = digests_of place_of failures gave ended first (set now count t) in
      reads_not value sources r (passed (Unread sources) r fault is (next_unread first digests now count s t fault g well here p))

  pub digests_lost : {X : Type 0} (value : X → List (List ℕ)) (r : Result X Fault) (first later : List S) → IsErrAnd r (λ f. f ≡ Memory)
      → NoneFailed failures first later → Reads value (digests_of place_of failures gave ended first later) r
  digests_lost value r first later is well =
      let sources = digests_of place_of failures gave ended first later in
      reads_not value sources r (passed (Unread sources) r Memory is well)
