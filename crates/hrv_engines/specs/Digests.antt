-- Digests of files as text, by the form of `sha256sum`: a line each, of 64 digits, two spaces and the path. This project's own.
use Rattle.std.specs.Prelude.{◌≡◌, ◌⊎◌, ℕ, ◌<◌, List, [], ◌∷◌, ◌++◌}
use Rattle.hex.specs.Hex.{encode_lower}
use Rattle.sha2.specs.Sha256.{sha256}
use Rattle.hrv_engines.specs.declared.faults.Refusal.{Refusal}
use Rattle.hrv_engines.specs.Devices.{GaveEach, NamesFailed, NoneFailed, Sources}

-- a line for each path with its digest; two spaces (32) stand between them
abbrev pub digest_line : (path digest : List ℕ) → List ℕ
digest_line path digest = encode_lower digest ++ 32 ∷ 32 ∷ path ++ 10 ∷ []

abbrev pub digest_lines : (paths digests : List (List ℕ)) → List ℕ
digest_lines [] digests = []
digest_lines (path ∷ paths) [] = []
digest_lines (path ∷ paths) (digest ∷ digests) = digest_line path digest ++ digest_lines paths digests

-- the digests of files at these paths
abbrev pub IsDigestText : List (List ℕ) → List (List ℕ) → List ℕ → Type 0
IsDigestText paths digests text = text ≡ digest_lines paths digests

-- every file has a digest
abbrev pub IsRefusedDigest : List (List ℕ) → Refusal → Type 0
IsRefusedDigest digests refusal = ⊥

-- ---- files by their digests

-- a source gave bytes, all that it had, of this digest
abbrev pub GaveDigest : {S : Type 0} (gave : S → List ℕ → S → Type 0) (ended : S → Type 0) → S → List ℕ → S → Type 0
GaveDigest gave ended before digest after = (bytes : List ℕ) × gave before bytes after × ended after × (digest ≡ sha256 bytes)

-- a source, by the digest of all that it had
abbrev pub digest_of : {S : Type 0} (place : S → List ℕ) (failures : S → ℕ) (gave : S → List ℕ → S → Type 0) (ended : S → Type 0) (before after : S)
    → Sources (List ℕ)
digest_of place failures gave ended before after = record {
  gave = λ digest. GaveDigest gave ended before digest after;
  failed = λ path. (path ≡ place before) × (failures before < failures after);
  well = failures after ≡ failures before;
  untouched = after ≡ before;
}

-- sources that are read one after the other, each by the digest of all that it had
abbrev pub digests_of : {S : Type 0} (place : S → List ℕ) (failures : S → ℕ) (gave : S → List ℕ → S → Type 0) (ended : S → Type 0) (before after : List S)
    → Sources (List (List ℕ))
digests_of place failures gave ended before after = record {
  gave = λ digests. GaveEach (GaveDigest gave ended) before digests after;
  failed = NamesFailed place failures (GaveDigest gave ended) (λ s t. ⊥) before after;
  well = NoneFailed failures before after;
  untouched = after ≡ before;
}
