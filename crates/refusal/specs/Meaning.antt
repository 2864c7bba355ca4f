-- The number of a reason in document 01. Assumes nothing.
use Rattle.std.specs.Prelude.{ℕ}
use Rattle.refusal.specs.declared.Reason.{Reason}
use Rattle.refusal.specs.declared.Reason.TheVariants as reason
use Rattle.refusal.specs.declared.Refusal.{Refusal}

abbrev pub number_of : Reason → ℕ
number_of reason.CutShort = 1
number_of reason.WrongMark = 2
number_of reason.OutOfRange = 3
number_of reason.TooDeep = 4
number_of reason.BytesBehind = 5
number_of reason.LocalLimit = 6
number_of reason.FrameLimit = 7
number_of reason.CaptureLimit = 8
number_of reason.OutputFull = 9
number_of reason.DiagnosticsFull = 10
number_of reason.TooManyNames = 11
number_of reason.TooManyCaptures = 12
number_of reason.ShortTable = 13
number_of reason.LongTree = 14
number_of reason.ReferenceLimit = 17

-- a refusal for this reason, at a place
abbrev pub refuses : Reason → ℕ → Refusal
refuses why place = record { reason = why; place = place }
