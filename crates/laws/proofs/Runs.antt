-- The laws of runs, together.
use Rattle.entry.specs.Layout.{DistinctFrames, Layout, Lawful}
use Rattle.laws.specs.RunLaws.{RunLaws}
use Rattle.laws.proofs.Alike.{alike_until_stale_sought}
use Rattle.laws.proofs.Histories.{only_writers_make_stale, stale_only_by_write}
use Rattle.laws.proofs.Invariant.{kept_once}
use Rattle.laws.proofs.Marked.{writes_mark_pages}
use Rattle.laws.proofs.Noting.{register_notes}
use Rattle.laws.proofs.Refusals.{outright_refusals}
use Rattle.laws.proofs.Transparent.{transparent_iff_none_stale, unsought_alike}
use Rattle.laws.proofs.Unfolding.{unfolds}

pub run_laws : (l : Layout) → Lawful l → DistinctFrames l → RunLaws l
run_laws l laws frames = record {
  kept_once = kept_once l laws;
  transparent = transparent_iff_none_stale l laws frames;
  unsought = unsought_alike l;
  writes_mark = writes_mark_pages l laws;
  stale = stale_only_by_write l laws;
  makes_stale = only_writers_make_stale l laws;
  alike = alike_until_stale_sought l laws;
  refusals = outright_refusals l;
  notes = register_notes l;
  unfolds = unfolds l;
}
