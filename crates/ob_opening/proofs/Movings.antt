-- What is read of a store's slots doesn't change with its registers.
use Rattle.std.proofs.Common.{◌≡◌, inl, inr, ⊎_elim, ℕ, zero, suc, ◌+◌, ◌<◌, ◌≤◌, ◌%◌, ◌^◌, List, [], ◌∷◌, Some, map, take, drop, length, sym, ◌∙◌, ap, subst, arith}
use mathlib.Core.Path.{fun_ext}
use Rattle.ob_base.specs.declared.params.Params.{Params}
use Rattle.ob_base.specs.declared.job.Job.{Job}
use Rattle.ob_base.specs.declared.fault.Damaged.{Damaged as Damage}
use Rattle.ob_base.specs.declared.fault.Fault.TheVariants.{Damaged}
use Rattle.ob_base.specs.Layout.{slot_cell}
use Rattle.ob_base.specs.Planned.{job_at}
use Rattle.ob_store.specs.Disk.{Disk, Image}
use Rattle.ob_store.specs.Images.{IsSynced, LeavesOnly, Passes, Same}
use Rattle.ob_store.proofs.Moments.{leaves_of}
use Rattle.ob_seal.specs.declared.keys.Keys.{Keys}
use Rattle.ob_seal.specs.Damage.{IsDamage}
use Rattle.ob_seal.specs.Pads.{pad_of, xored}
use Rattle.ob_cells.specs.Jobs.{IsFirstFailing, IsPlainOf}
use Rattle.ob_tables.specs.Version.{Version, rank_at}
use Rattle.ob_tables.specs.Buckets.{version_at}
use Rattle.ob_tables.specs.Content.{Content, Rows}
use Rattle.ob_stand.specs.Table.{flat_of}
use Rattle.ob_log.specs.Logs.{BatchRecord}
use Rattle.ob_ring.specs.FlatTable.{FlatTable}
use Rattle.ob_ring.specs.Picked.{Picked, batch_picked, job_of}
use Rattle.ob_stand.specs.Reads.{plains_in, slots_in}
use Rattle.ob_stand.specs.Stands.{RingStanding, Stands}
use Rattle.ob_stand.proofs.Frames.{stands_all}
use Rattle.ob_twin.specs.Keyed.{tagging}
use Rattle.ob_twin.specs.Register.{KeepsAt, SameOutside}
use Rattle.ob_twin.proofs.Frames.{register_moved}
use Rattle.ob_stand.specs.Carries.{Slots}
use Rattle.ob_stand.specs.Runs.{slots_of}
use Rattle.ob_recover.specs.Repeats.{AreRepeated, IsBatchDamage, IsRepeatDamage, IsRepeatRowDamage, asked_of_record, table_after_records}

-- ---- slots

plains_off : (keys : Keys) (p : Params) (versions : List Version) (a b : Image) → SameOutside 1 a b → slots_of p versions (plains_in keys a) ≡ slots_of p versions (plains_in keys b)
plains_off keys p versions a b same = fun_ext (λ u. fun_ext (λ j. one u j))
  where
    one : (u j : ℕ) → slots_of p versions (plains_in keys a) u j ≡ slots_of p versions (plains_in keys b) u j
    one u j =
        let v = version_at versions u in
        let far : 1 + 4 ≤ slot_cell p v.home u (rank_at v j) = omega arith in
        ap (λ (l : List ℕ). xored (take 96 (drop 16 l)) (pad_of keys.seal v.generation ((v.base + rank_at v j) % 2 ^ 64))) (same (slot_cell p v.home u (rank_at v j)) (inr far))

pub slots_off : (keys : Keys) (p : Params) (c : Content) (a b : Image) → SameOutside 1 a b → slots_in keys p c a ≡ slots_in keys p c b
slots_off keys p c a b same = plains_off keys p c.versions a b same

pub repeated_off : (keys : Keys) (p : Params) (c : Content) (a b : Image) (rows : Rows) (rs : List BatchRecord) → SameOutside 1 a b → AreRepeated p (slots_in keys p c a) (flat_of p c) c.rows rows rs → AreRepeated p (slots_in keys p c b) (flat_of p c) c.rows rows rs
repeated_off keys p c a b rows rs same all = subst (λ (slots : Slots). AreRepeated p slots (flat_of p c) c.rows rows rs) (slots_off keys p c a b same) all

-- ---- damage

-- a job reads a slot
far_job : (p : Params) (versions : List Version) (qs : List Picked) (i : ℕ) → i < length (map (job_of p versions) qs) → 1 + 4 ≤ (job_at (map (job_of p versions) qs) i).cell
far_job p versions [] i lt = absurd (omega arith)
far_job p versions (q ∷ qs) zero lt = omega arith
far_job p versions (q ∷ qs) (suc i) lt = far_job p versions qs i (omega arith)

failing_off : (keys : Keys) (p : Params) (versions : List Version) (qs : List Picked) (a b : Image) (d : Damage) → SameOutside 1 a b
    → IsFirstFailing keys a (map (job_of p versions) qs) (Damaged d.cell d.check d.kept d.computed) → IsFirstFailing keys b (map (job_of p versions) qs) (Damaged d.cell d.check d.kept d.computed)
failing_off keys p versions qs a b d same first =
    let js : List Job = map (job_of p versions) qs in
    let w : first.job < length js = first.within in
    record {
      job = first.job;
      within = first.within;
      earlier = λ i lt. earlier i lt (first.earlier i lt);
      fails = subst (λ (l : List ℕ). IsDamage keys (job_at js first.job).cell (Some ((job_at js first.job).generation, (job_at js first.job).number)) l d) (same (job_at js first.job).cell (inr (far_job p versions qs first.job w))) first.fails;
    }
  where
    earlier : (i : ℕ) → i < first.job → ((plain : List ℕ) × IsPlainOf keys a (job_at (map (job_of p versions) qs) i) plain) → (plain : List ℕ) × IsPlainOf keys b (job_at (map (job_of p versions) qs) i) plain
    earlier i lt (plain, was) =
        let w = first.within in
        let here = same (job_at (map (job_of p versions) qs) i).cell (inr (far_job p versions qs i (omega arith))) in
        (plain, record { whole = was.whole; spelled = sym here ∙ was.spelled })

batch_damage_off : (keys : Keys) (p : Params) (versions : List Version) (a b : Image) (t : FlatTable) (r : BatchRecord) (d : Damage) → SameOutside 1 a b → IsBatchDamage keys p versions a t r d → IsBatchDamage keys p versions b t r d
batch_damage_off keys p versions a b t r d same damage = ⊎_elim
    (λ failing. inl (failing_off keys p versions (batch_picked p t (asked_of_record p r)) a b d same failing))
    (λ row. inr (subst (λ (slots : Slots). IsRepeatRowDamage p slots t r d) (plains_off keys p versions a b same) row))
    damage

pub damage_off : (keys : Keys) (p : Params) (c : Content) (rs : List BatchRecord) (a b : Image) (d : Damage) → SameOutside 1 a b → IsRepeatDamage keys p a c rs d → IsRepeatDamage keys p b c rs d
damage_off keys p c rs a b d same was = record {
  before = was.before;
  broken = was.broken;
  rest = was.rest;
  split = was.split;
  rows = was.rows;
  read = repeated_off keys p c a b was.rows was.before same was.read;
  damage = batch_damage_off keys p c.versions a b (table_after_records p (flat_of p c) was.before) was.broken d same was.damage;
}

-- ---- reads behind a sync

pub synced_on : (a b : Disk) → IsSynced a → Passes Same a b → ((k : ℕ) → b.cells k ≡ a.cells k) → IsSynced b
synced_on a b synced passes same c left k =
    let back = passes.now c left in
    ap (λ (i : Image). i k) back.2 ∙ synced back.0 back.1 k ∙ sym (same k)

-- what each image has, each has behind the reads
pub leaves_on : (a b : Disk) (P : Image → Type 0) → ((c : Image) → a.left_since a.moment c → a.may_leave c) → Passes Same a b → ((c : Image) → a.may_leave c → P c) → (a.tells → P a.cells) → LeavesOnly a b P
leaves_on a b P only passes all read = leaves_of Same P P a b passes only all read (λ c d has same. subst P (sym same) has) (λ c has. has)

-- a register that stands stands in each image of a synced store, which has the rest too
pub kept_in : (keys : Keys) (a : Disk) (from : Image) (n : ℕ) → IsSynced a → KeepsAt (tagging keys) 1 from n a.cells → (c : Image) → a.may_leave c → KeepsAt (tagging keys) 1 from n c
kept_in keys a from n synced kept c left = record {
  stands = register_moved (tagging keys) 1 n c a.cells (λ k lo hi. synced c left k) kept.stands;
  rest = λ k off. synced c left k ∙ kept.rest k off;
}

pub stands_in : (keys : Keys) (p : Params) (s : RingStanding) (a : Disk) → IsSynced a → Stands keys p s a.cells → (c : Image) → a.may_leave c → Stands keys p s c
stands_in keys p s a synced stands c left = stands_all keys p s c a.cells (synced c left) stands
