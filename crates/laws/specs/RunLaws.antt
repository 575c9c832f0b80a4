-- All that holds of every run of a unit, whose tables have the layout l.
use Rattle.entry.specs.Layout.{Layout}
use Rattle.physical.specs.Stores.{Writable}
use Rattle.model.specs.Commands.{Unfolds}
use Rattle.laws.specs.Likeness.{AlikeUntilStaleSought}
use Rattle.laws.specs.Notes.{RegisterNotes}
use Rattle.laws.specs.Refusing.{OutrightRefusals}
use Rattle.laws.specs.Staleness.{OnlyWritersMakeStale, StaleOnlyByWrite}
use Rattle.laws.specs.Transparency.{KeptOnce, TransparentIffNoneStale, UnsoughtAlike, WritesMarkPages}

pub record RunLaws (l : Layout) : Type 0 where
  pub kept_once : KeptOnce l
  pub transparent : TransparentIffNoneStale l
  pub unsought : UnsoughtAlike l
  pub writes_mark : WritesMarkPages l
  pub stale : StaleOnlyByWrite l
  pub makes_stale : OnlyWritersMakeStale l
  pub alike : AlikeUntilStaleSought l
  pub refusals : OutrightRefusals l
  pub notes : RegisterNotes l
  pub unfolds : (w : Writable) → Unfolds l w
