-- What turns add to counts. This project's own.
use Rattle.std.specs.Prelude.{◌≡◌, ℕ, ◌+◌, ◌*◌, ◌^◌, ◌<◌, ◌≤◌, nat_le, nat_lt, ◌&&◌, if◌then◌else◌, List, length, replicate, slice_get, slice_index}
use Rattle.std.specs.Prelude.{Option, Some, None}
use Rattle.memory.specs.Access.{text_start}
use Rattle.multi_hart.specs.Run.{State}
use Rattle.turn_log.specs.TurnLog.{most_turns}
use Rattle.run_reports.specs.Profile.{idle_turns, turns_at, turns_made}
use Rattle.run_reports.specs.ProfileText.{Counts}
use Rattle.run_reports.specs.declared.profiles.HartProfile.{HartProfile}

-- this many turns may still be added to each count
abbrev pub HaveRoom : List ℕ → ℕ → Type 0
HaveRoom counts more = (place : ℕ) → place < length counts → slice_index counts place + more < 2 ^ 64

pub record HasRoom (profile : HartProfile) (more : ℕ) : Type 0 where
  pub counts : HaveRoom profile.counts.items more
  pub made : profile.made + more < 2 ^ 64
  pub idle : profile.idle + more < 2 ^ 64

-- the counts of this many words from a place on are one more, and all others as they were
pub record AreRaised (place count : ℕ) (old new : List ℕ) : Type 0 where
  pub as_many : length new ≡ length old
  pub each : (k : ℕ) → k < length old → slice_index new k ≡ slice_index old k + (if nat_le place k && nat_lt k (place + count) then 1 else 0)

-- a hart's turns are added to the counts of the words where it made them
pub record AreAdded (hart : ℕ) (begin : State) (turns : List ℕ) (old new : List ℕ) : Type 0 where
  pub as_many : length new ≡ length old
  pub each : (place : ℕ) → place < length old → slice_index new place ≡ slice_index old place + turns_at hart (text_start + 4 * place) begin turns

-- a hart's turns are added to all that is counted of it
pub record IsAdded (hart : ℕ) (begin : State) (turns : List ℕ) (old new : HartProfile) : Type 0 where
  pub counts : AreAdded hart begin turns old.counts.items new.counts.items
  pub made : new.made ≡ old.made + turns_made hart begin turns
  pub idle : new.idle ≡ old.idle + idle_turns hart begin turns

-- no turn is counted yet, over this many words
pub record IsUncounted (words : ℕ) (profile : HartProfile) : Type 0 where
  pub counts : profile.counts.items ≡ replicate words 0
  pub made : profile.made ≡ 0
  pub idle : profile.idle ≡ 0

-- there are counts of this many words, none of more turns than eight harts make
pub record AreFew (words : ℕ) (profile : HartProfile) : Type 0 where
  pub enough : words ≤ length profile.counts.items
  pub few : (place : ℕ) → place < words → slice_index profile.counts.items place ≤ 8 * most_turns

-- ---- what profiles say

abbrev pub made_in : Option HartProfile → ℕ
made_in None = 0
made_in (Some profile) = profile.made

abbrev pub idle_in : Option HartProfile → ℕ
idle_in None = 0
idle_in (Some profile) = profile.idle

abbrev pub count_in : ℕ → Option HartProfile → ℕ
count_in place None = 0
count_in place (Some profile) = slice_index profile.counts.items place

abbrev pub counts_in : List HartProfile → Counts
counts_in profiles = record {
  made = λ hart. made_in (slice_get profiles hart);
  idle = λ hart. idle_in (slice_get profiles hart);
  there = λ hart place. count_in place (slice_get profiles hart);
}
