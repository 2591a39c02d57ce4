-- Each call of a ring vault, by what it answered.
use Rattle.std.specs.Prelude.{ℕ, List}
use Rattle.ob_recover.specs.Life.{LifeState, WordId}
use Rattle.ob_vault.specs.RingVaults.{RingCalled, Running}
use Rattle.ob_serial.specs.Vaults.{DoubtBy, End, Ended, Fetch, RefusedBy, Values, VaultAnswer, VaultCall}
use Rattle.ob_store.specs.Disk.{Clock, Disk, Image, NotAfter}
use Rattle.ob_store.specs.declared.watch.Note.{Note}
use Rattle.ob_vault.specs.Acts.{AreTapeWords, IsCallInLife, RunsInLife, is_answered}
use Rattle.ob_vault.proofs.Ending.{end_before, end_ok, end_unsure}
use Rattle.ob_vault.proofs.Fetching.{fetch_err, fetch_ok}

module _ {S : Type 0} (disk : S → Disk) (word_of : WordId → ℕ) (s : LifeState) (old new : Running S) (notes : List Note)
    (counts_now : (t : Clock) (c : Image) → NotAfter t (disk new.store).moment → (disk new.store).may_leave c → (disk new.store).left_since t c) (only_now : (c : Image) → (disk old.store).left_since (disk old.store).moment c → (disk old.store).may_leave c) where
  pub call_lives : (call : VaultCall) (answer : VaultAnswer) → RunsInLife word_of s old.run (disk old.store) → AreTapeWords word_of ((old.run).sealer).generation new.drawn → RingCalled disk old new notes call answer
      → IsCallInLife disk word_of old new notes s call (is_answered answer)
  call_lives (Fetch asks) (Values out) runs tape is = fetch_ok disk word_of s old new notes asks runs tape is
  call_lives (Fetch asks) (RefusedBy f) runs tape is = fetch_err disk word_of s old new notes asks runs tape counts_now only_now f is
  call_lives (Fetch asks) Ended runs tape is = absurd is
  call_lives (Fetch asks) (DoubtBy f) runs tape is = absurd is
  call_lives (End writes) Ended runs tape is = end_ok disk word_of s old new notes writes runs tape counts_now is
  call_lives (End writes) (RefusedBy f) runs tape is = end_before disk word_of s old new notes writes runs tape counts_now f is
  call_lives (End writes) (DoubtBy f) runs tape is = end_unsure disk word_of s old new notes writes runs tape counts_now f is
  call_lives (End writes) (Values out) runs tape is = absurd is
