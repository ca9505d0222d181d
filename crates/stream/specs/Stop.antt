-- Why a stream of cases stops.
use Rattle.input.specs.declared.Unfilled.{Unfilled}
use Rattle.input.specs.declared.Unfilled.TheVariants.{Short, Failed}
use Rattle.report.specs.declared.notice.Notice.TheVariants.{Short as ShortNotice}
use Rattle.stream.specs.declared.stop.Stop.{Stop}
use Rattle.stream.specs.declared.stop.Stop.TheVariants.{Ended, Told, Failed as FailedStop}

-- an input that ends within a case is told as short; an error stays one
abbrev pub stop_of : Unfilled → Stop
stop_of Short = Told ShortNotice
stop_of (Failed e) = FailedStop e

-- a read or a write failed
abbrev pub IsFailed : Stop → Type 0
IsFailed Ended = ⊥
IsFailed (Told n) = ⊥
IsFailed (FailedStop e) = Unit {0}
