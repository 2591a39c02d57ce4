-- The jobs of a plan, as they were run on the cells.
use Rattle.std.specs.Prelude.{◌≡◌, ℕ, ◌+◌, ◌%◌, ◌^◌, List, [], ◌∷◌, map, ⊤}
use Rattle.std.specs.declared.option.Option.TheVariants.{Some}
use Rattle.ob_base.specs.declared.params.Params.{Params}
use Rattle.ob_base.specs.declared.job.Job.{Job}
use Rattle.ob_base.specs.Layout.{slot_cell}
use Rattle.ob_tables.specs.Version.{Version, rank_at}
use Rattle.ob_tables.specs.Buckets.{Buckets, version_at}
use Rattle.ob_ring.specs.Picked.{Picked, SameSeals, job_of}
use Rattle.ob_stand.specs.Carries.{Slots, AreRead}

-- what a cell holds, opened under a generation and a number
abbrev pub Plains : Type 0
Plains = (cell generation number : ℕ) → List ℕ

-- each job was run: its result is what its cell holds, and its key is as it was
abbrev pub AreRun : Plains → List Job → List Job → Type 0
AreRun plain [] [] = ⊤
AreRun plain (j ∷ js) (r ∷ rs) = (r.key ≡ j.key) × (r.result ≡ Some (plain j.cell j.generation j.number)) × AreRun plain js rs
AreRun plain js rs = ⊥

-- the plain bytes of an index: those of its slot's cell
abbrev pub slots_of : Params → List Version → Plains → Slots
slots_of p versions plain u j =
    let v = version_at versions u in
    plain (slot_cell p v.home u (rank_at v j)) v.generation ((v.base + rank_at v j) % 2 ^ 64)

pub record JobsAreRead : Type 0 where
  -- jobs that were run read the slots of their indexes
  pub read : (p : Params) (versions : List Version) (plain : Plains) (qs : List Picked) (js : List Job)
      → AreRun plain (map (job_of p versions) qs) js → AreRead (slots_of p versions plain) qs js
  -- and the slots are the same while the versions stay as they are sealed
  pub same : (p : Params) (old new : Buckets) (plain : Plains) (u j : ℕ) → SameSeals old new
      → slots_of p new.versions plain u j ≡ slots_of p old.versions plain u j
