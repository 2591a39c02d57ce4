-- A ring store's course: what a world's steps add to its past, and what is promised of that.
use Rattle.std.specs.Prelude.{ℕ, ◌+◌, Option}
use Rattle.ob_base.specs.Repeats.{NoRepeats}
use Rattle.ob_base.specs.declared.params.Params.{Params}
use Rattle.ob_tables.specs.Rank.{IsRanking}
use Rattle.ob_store.specs.Disk.{Image}
use Rattle.ob_seal.specs.declared.keys.Keys.{Keys}
use Rattle.ob_serial.specs.Vaults.{Standing, VaultAnswer, VaultCall}
use Rattle.ob_stand.specs.Stands.{StandsRing}
use Rattle.ob_recover.specs.Life.{WordId}
use Rattle.ob_world.specs.Courses.{Course}
use Rattle.ob_world.specs.Headlines.{HeadlineHolds}
use Rattle.ob_ring_world.specs.Pasts.{AreHolesFresh, AreRowsShown, BeginsWithFormat, IsSoundPast, RingPast, formatted_past}
use Rattle.ob_ring_world.specs.Steps.{IsOpenedBy, IsRingCall, IsRingCut}

module _ (keys : Keys) (p : Params) (word_of : WordId → ℕ) (slot : ℕ → ℕ → ℕ) where
  -- A past that began well goes on so. Then its rows are the public schedule's, the format's the oldest, filled by the life; each hole was filled once; and no pad was
  -- used twice.
  pub record RingPromises : Type 0 where
    pub called : (old : RingPast) (call : VaultCall) (answer : VaultAnswer) (new : RingPast) → IsRingCall p word_of slot old call answer new → IsSoundPast p word_of slot old → IsSoundPast p word_of slot new
    pub cut : (old : RingPast) (inside : Option VaultCall) (image : Image) (new : RingPast) → IsRingCut p word_of slot keys old inside image new → IsSoundPast p word_of slot old → IsSoundPast p word_of slot new
    pub opened : (old : RingPast) (found : Standing) (new : RingPast) → IsOpenedBy p word_of slot old found new → IsSoundPast p word_of slot old → IsSoundPast p word_of slot new
    pub public : (past : RingPast) → IsSoundPast p word_of slot past → AreRowsShown p word_of slot past.rows × BeginsWithFormat past.rows
    pub fresh : (past : RingPast) → IsSoundPast p word_of slot past → AreHolesFresh p word_of slot past
    pub pads_once : (past : RingPast) → IsSoundPast p word_of slot past → NoRepeats past.pads

  -- an image stands for what it does at some generation
  abbrev pub ring_course : RingPromises → Course
  ring_course kept = record {
    Past = RingPast;
    stands = λ past image at. (generation : ℕ) × StandsRing keys p generation image at;
    called = IsRingCall p word_of slot;
    cut = IsRingCut p word_of slot keys;
    opened = IsOpenedBy p word_of slot;
    IsSound = IsSoundPast p word_of slot;
    goes_on_called = kept.called;
    goes_on_cut = kept.cut;
    goes_on_opened = kept.opened;
    IsPublic = λ past. AreRowsShown p word_of slot past.rows × BeginsWithFormat past.rows;
    IsFresh = AreHolesFresh p word_of slot;
    ArePadsOnce = λ past. NoRepeats past.pads;
    public = kept.public;
    fresh = kept.fresh;
    pads_once = kept.pads_once;
  }

-- Of every list of events over a ring store, where the format ordered each bucket's slots: the headline, and what
-- the course promises. A store that was formatted has a sound past, also where a crash came inside the format.
abbrev pub RingHeadlineHolds : Type 0
RingHeadlineHolds = (keys : Keys) (p : Params) (word_of : WordId → ℕ) (slot : ℕ → ℕ → ℕ) → ((u : ℕ) → IsRanking (p.real + p.dummies) (slot u))
    → ((calls : ℕ) → IsSoundPast p word_of slot (formatted_past p calls)) × RingPromises keys p word_of slot × ((kept : RingPromises keys p word_of slot) → HeadlineHolds (ring_course keys p word_of slot kept))
