-- What a vault's run knows of what it was lent goes on to hold, as long as it serves.
use Rattle.std.specs.Prelude.{◌≡◌, ℕ, ◌*◌, ◌<◌, ◌≤◌, ◌^◌, Bool, true, false, List, ◌++◌, drop, length, Result, Ok, Err, OnOk, OnErr}
use Rattle.std.proofs.Common.{arith, sym, ap, ◌∙◌, subst, inl, ⊎_elim}
use Rattle.std.proofs.Math.Seq.{drop-length}
use Rattle.std.proofs.lemmas.List.{append-nil}
use Rattle.std.proofs.lemmas.Bool.{true≢false}
use Rattle.ob_base.specs.Layout.{checkpoint_cells}
use Rattle.ob_base.specs.Planned.{most_jobs}
use Rattle.ob_base.specs.Tree.{buckets, width}
use Rattle.ob_base.specs.declared.fault.Fault.{Fault}
use Rattle.ob_base.specs.declared.fault.Fault.TheVariants as fault
use Rattle.ob_base.specs.declared.params.Params.{Params}
use Rattle.ob_cells.specs.Jobs.{Manned}
use Rattle.ob_cells.specs.Writes.{WritesWithin}
use Rattle.ob_end.specs.EndRuns.{DrawsForEnd, EndDraws, HasWords, IsEndReady}
use Rattle.ob_end.proofs.CloseLaws.{gates_kept}
use Rattle.ob_fetch.specs.declared.run.Run.{Run}
use Rattle.ob_fetch.specs.Fetches.{FetchDraws, IsRunReady, MayGoOn, words_since}
use Rattle.ob_recover.specs.Fits.{IsPlannerFit}
use Rattle.ob_ring.specs.FlatTable.{FlatTable}
use Rattle.ob_serial.specs.declared.vault.EndErr.{EndErr}
use Rattle.ob_serial.specs.declared.vault.EndErr.TheVariants as end
use Rattle.ob_store.specs.Disk.{Disk}
use Rattle.ob_twin.specs.Opening.{GatesAre}
use Rattle.ob_twin.specs.declared.gates.Gates.{Gates}
use Rattle.ob_vault.specs.Knowns.{kept_of_run}
use Rattle.ob_vault.specs.declared.known.Known.{Known}

-- ---- a call

-- it may be made on what the vault was lent, as its run knows that
pub may_go_on : (disk : Disk) (present : ℕ) (words : List ℕ) (manned : Manned) (run : Run) (known : Known) → known ≡ kept_of_run run → disk.out ≡ 0 → IsEndReady run → run.spent ≡ false → most_jobs run.params ≤ manned.jobs
    → (known.spent ≡ false → present ≡ known.generation) → (known.spent ≡ false → known.drawn ≡ length words) → (known.spent ≡ false → known.drawn ≤ 2 ^ 62) → MayGoOn disk present words manned run
may_go_on disk present words manned run known is none ready serves crew at drawn few =
    let serving = ap (λ (k : Known). k.spent) is ∙ serves in
    record {
      none_out = none;
      ready = ready.ready;
      serves = serves;
      crew = crew;
      generation = at serving ∙ ap (λ (k : Known). k.generation) is;
      drawn = sym (ap (λ (k : Known). k.drawn) is) ∙ drawn serving;
      few = subst (λ n. n ≤ 2 ^ 62) (ap (λ (k : Known). k.drawn) is) (few serving);
    }

-- ---- a fetch

-- it writes no register
pub fetch_told : (known : Gates) (base many : ℕ) (old new : Disk) → 9 ≤ base → WritesWithin base many old new → (new.tells → old.tells) → (old.tells → GatesAre known.epoch 5 old.cells) → new.tells → GatesAre known.epoch 5 new.cells
fetch_told known base many old new high within back told tells =
    gates_kept known.epoch old.cells new.cells (λ k low. within.rest (back tells) k (inl (omega (arith, low, high)))) (told (back tells))

module _ (run new : Run) (kept : new ≡ record run { sealer = new.sealer; drawn = new.drawn; left = new.left; spent = new.spent; ring = new.ring; jobs = new.jobs; words = new.words }) where
  same_params : new.params ≡ run.params
  same_params = ap (λ (x : Run). x.params) kept

  pub fetch_ready : IsEndReady run → IsRunReady new → length (new.words).items ≡ length (run.words).items → IsPlannerFit new.ring → ∥ IsEndReady new ∥₁
  fetch_ready is ready many fit = ∣ record {
    ready = ready;
    own_words = subst (λ (q : Params). q.writes ≤ length (new.words).items) (sym same_params) (let room = is.own_words in omega (arith, room, many));
    all_words = subst (λ (q : Params). buckets q * width q ≤ length (new.words).items) (sym same_params) (let room = is.all_words in omega (arith, room, many));
    sheet = ap (λ (x : Run). length x.sheet) kept ∙ is.sheet ∙ ap (λ (q : Params). 96 * checkpoint_cells q) (sym same_params);
    planner = fit;
  } ∣₁

-- what holds where it went well holds of a run that serves on
pub fetch_went : (A B P : Type 0) (spent : Bool) (x : Result (Unit {0}) Fault) → OnOk x P → OnErr x (A × (spent ≡ true) × B) → spent ≡ false → P
fetch_went A B P spent (Ok done) holds refused serves = holds
fetch_went A B P spent (Err f) holds refused serves = absurd (true≢false (sym refused.1 ∙ serves))

-- ---- an end

pub end_went : (A B P : Type 0) (spent : Bool) (x : Result (Unit {0}) EndErr) → OnOk x P → OnErr x (A × B × (spent ≡ true)) → spent ≡ false → P
end_went A B P spent (Ok done) holds refused serves = holds
end_went A B P spent (Err e) holds refused serves = absurd (true≢false (sym refused.2 ∙ serves))

pub end_small : (A B : Type 0) (run new : Run) (x : Result (Unit {0}) EndErr) → run.epoch < 2 ^ 62 → OnOk x (IsEndReady new) → OnErr x ((new.epoch ≡ run.epoch) × A × B) → new.epoch < 2 ^ 62
end_small A B run new (Ok done) was ready refused = (ready.ready).small
end_small A B run new (Err e) was ready refused = let same : new.epoch ≡ run.epoch = refused.0 in omega (arith, was, same)

-- ---- the words drawn stand behind those before

none_drawn : (old new : List ℕ) → new ≡ old → new ≡ old ++ words_since old new
none_drawn old new same = same ∙ sym (append-nil old) ∙ ap (λ (l : List ℕ). old ++ l) (sym (ap (λ (l : List ℕ). drop (length old) l) same ∙ drop-length old))

pub fetch_grows : (places : ℕ) (old new : List ℕ) (x : Result (Unit {0}) Fault) → FetchDraws places old new x → new ≡ old ++ words_since old new
fetch_grows places old new (Ok done) draws = draws.words
fetch_grows places old new (Err fault.Memory) draws = draws.words
fetch_grows places old new (Err fault.Usage) draws = draws.words
fetch_grows places old new (Err (fault.BadScript line)) draws = draws.words
fetch_grows places old new (Err (fault.BadParams what)) draws = draws.words
fetch_grows places old new (Err fault.NotStore) draws = draws.words
fetch_grows places old new (Err (fault.Damaged cell what kept computed)) draws = draws.words
fetch_grows places old new (Err (fault.StoreFault unsure)) draws = draws.words
fetch_grows places old new (Err (fault.StashFull rows)) draws = draws.words
fetch_grows places old new (Err (fault.Worn number)) draws = none_drawn old new draws
fetch_grows places old new (Err fault.SourceFault) draws = draws.words
fetch_grows places old new (Err fault.SinkFault) draws = draws.words

module _ (p : Params) (t : FlatTable) (epoch drawn : ℕ) (old new : List ℕ) where
  before_grows : (f : Fault) → EndDraws p t epoch drawn old new (Err (end.Before f)) → new ≡ old ++ words_since old new
  before_grows fault.Memory draws = none_drawn old new draws
  before_grows fault.Usage draws = none_drawn old new draws
  before_grows (fault.BadScript line) draws = none_drawn old new draws
  before_grows (fault.BadParams what) draws = none_drawn old new draws
  before_grows fault.NotStore draws = none_drawn old new draws
  before_grows (fault.Damaged cell what kept computed) draws = none_drawn old new draws
  before_grows (fault.StoreFault unsure) draws = ⊎_elim (λ (some : DrawsForEnd p t epoch drawn old new). some.words) (λ (none : new ≡ old). none_drawn old new none) draws
  before_grows (fault.StashFull rows) draws = draws.words
  before_grows (fault.Worn number) draws = ⊎_elim
      (λ (some : HasWords p t epoch drawn × DrawsForEnd p t epoch drawn old new). (some.1).words)
      (λ (none : (HasWords p t epoch drawn → ⊥) × (new ≡ old)). none_drawn old new none.1)
      draws
  before_grows fault.SourceFault draws = none_drawn old new draws
  before_grows fault.SinkFault draws = none_drawn old new draws

  pub end_grows : (x : Result (Unit {0}) EndErr) → EndDraws p t epoch drawn old new x → new ≡ old ++ words_since old new
  end_grows (Ok done) draws = draws.words
  end_grows (Err (end.Before f)) draws = before_grows f draws
  end_grows (Err (end.Unsure f)) draws = draws.words
