-- The run over an opening begins where its planner is: it has shown the batches of the records found, from the content found on.
use Rattle.std.specs.Prelude.{ℕ, List, []}
use Rattle.std.proofs.Common.{refl, sym, subst}
use Rattle.ob_base.specs.declared.params.Params.{Params}
use Rattle.ob_tables.specs.Content.{Content, content_of}
use Rattle.ob_log.specs.Logs.{BatchRecord}
use Rattle.ob_recover.specs.declared.found.Found.{Found}
use Rattle.ob_recover.specs.Repeats.{IsPlannerOf}
use Rattle.ob_ring.specs.Ring.{Kept}
use Rattle.ob_recover.specs.Known.{PlansFrom}
use Rattle.ob_seal.specs.declared.keys.Keys.{Keys}
use Rattle.ob_start.specs.Registers.{HaveOpen}
use Rattle.ob_store.specs.Disk.{Disk}
use Rattle.ob_store.specs.Lines.{Trace}
use Rattle.ob_twin.specs.Opening.{HasOpen}
use Rattle.ob_twin.specs.declared.gates.Gates.{Gates}
use Rattle.ob_opening.specs.declared.opening.Opening.{Opening}
use Rattle.ob_opening.specs.OpeningRuns.{IsRingOpened}
use Rattle.ob_opening.specs.Openings.{IsOpeningOf}

-- a planner of these records lists no bucket
unlisted_planner : (p : Params) (c : Content) (rs : List BatchRecord) (ring : Kept) → IsPlannerOf p c rs ring → IsPlannerOf p c rs (record ring { metas = record ring.metas { order = [] } })
unlisted_planner p c rs ring is = record {
  params = is.params;
  table = record { orderly = (is.table).orderly; arrays = (is.table).arrays };
  entries = is.entries;
  seals = record { homes = (is.seals).homes; generations = (is.seals).generations; bases = (is.seals).bases; ranks = (is.seals).ranks; order = refl };
  counter = is.counter;
  room = is.room;
}

pub opening_plans : {L : Type 0} (keys : Keys) (p : Params) (found : Found) (o : Opening L) → IsOpeningOf keys p found o → HaveOpen found.gates
    → PlansFrom o.params (o.sealer).generation o.gates o.ring (content_of found.tables) found.records
opening_plans keys p found o is known = subst (λ (q : Params). PlansFrom q (o.sealer).generation o.gates o.ring (content_of found.tables) found.records) (sym is.params) (record {
  obeys = (is.obeys).content;
  fit = (is.obeys).records;
  planner = unlisted_planner p (content_of found.tables) found.records o.ring is.planner;
  gate = subst (λ (gates : Gates). HasOpen gates.epoch) (sym is.gates) known.1;
})

-- whatever the store told of what was opened
module _ {S L : Type 0} (disk : S → Disk) (keys : Keys) (most : ℕ) (p : Params) (old new : S) (before after : Trace) (o : Opening L) (opened : IsRingOpened disk keys most p old new before after o) where
  pub opened_plans : PlansFrom o.params (o.sealer).generation o.gates o.ring (content_of (opened.found).tables) (opened.found).records
  opened_plans = opening_plans keys p opened.found o opened.is (opened.follows).found_open
