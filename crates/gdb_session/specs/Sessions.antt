-- What a session with gdb holds, and which hart a thread is. This project's own.
use Rattle.std.specs.Prelude.{ℕ, suc, zero, nat_lt, if◌then◌else◌, Option, Some, None}
use Rattle.gdb_packets.specs.declared.requests.Thread.{Thread}
use Rattle.gdb_packets.specs.declared.requests.Thread.TheVariants.{Any, All, One}
use Rattle.debugger.specs.Places.{SessionState}

pub record GdbState : Type 0 where
  -- an image, a log, a place of it, and the marks that are set
  pub session : SessionState
  -- the hart whose registers gdb asks for
  pub focus : ℕ
  -- the hart that steps back, where gdb has named one
  pub stepping : Option ℕ

-- a session of which gdb has asked nothing
abbrev pub begun : SessionState → GdbState
begun session = record { session = session; focus = 0; stepping = None }

abbrev pub if_hart : ℕ → ℕ → Option ℕ
if_hart harts zero = None
if_hart harts (suc hart) = if nat_lt hart harts then Some hart else None

-- Thread N is hart N - 1. Where any thread or all are meant it is the hart that gdb looks at.
abbrev pub hart_of : GdbState → Thread → Option ℕ
hart_of state Any = Some state.focus
hart_of state All = Some state.focus
hart_of state (One number) = if_hart state.session.log.harts number
