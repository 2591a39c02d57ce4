-- Laws of the lives of a store.
use Rattle.std.specs.Prelude.{ℕ, List, [], ◌∷◌, ◌++◌, map}
use Rattle.ob_base.specs.Repeats.{NoRepeats}
use Rattle.ob_store.specs.declared.watch.Note.{Note}
use Rattle.ob_store.specs.Disk.{Disk}
use Rattle.ob_seal.specs.declared.keys.Keys.{Keys}
use Rattle.ob_seal.specs.Sealing.{Sealing}
use Rattle.ob_serial.specs.Vaults.{VaultCall, VaultAnswer, Values, Ended, RefusedBy, DoubtBy}
use Rattle.ob_serial.specs.VaultKinds.{Kind, AllCalled}
use Rattle.ob_pads.specs.Seals.{pads_from}
use Rattle.ob_pads.specs.Lives.{StoreAct, At, after_acts, pads_of, Opens, LeavesUnopened, Answers, IsLife, IsFormattedStore, AreDurable, LivesOn, LivesTo, formatted_at}

-- No pad is used twice, those of the format, which made so many seals, among them.
abbrev pub PadsAreFresh : {S : Type 0} → (S → Disk) → Type 0
PadsAreFresh {S} disk = (keys : Keys) (n : ℕ) (store : S) (acts : List (StoreAct S)) → IsFormattedStore disk keys store → IsLife disk keys (formatted_at store) acts
    → NoRepeats (pads_from 1 0 n ++ pads_of (formatted_at store) acts)

abbrev pub GenerationsAreDurable : {S : Type 0} → (S → Disk) → Type 0
GenerationsAreDurable {S} disk = (keys : Keys) (store : S) (acts : List (StoreAct S)) → IsFormattedStore disk keys store → IsLife disk keys (formatted_at store) acts
    → AreDurable disk keys (formatted_at store) acts

-- acts behind acts
abbrev pub LivesJoin : {S : Type 0} → (S → Disk) → Type 0
LivesJoin {S} disk = (keys : Keys) (at : At S) (first more : List (StoreAct S)) → IsLife disk keys at first → IsLife disk keys (after_acts at first) more → IsLife disk keys at (first ++ more)

-- a run behind a run
abbrev pub RunsJoin : {S : Type 0} → (S → Disk) → Type 0
RunsJoin {S} disk = (keys : Keys) (a b c : S) (first more : List VaultAnswer) → LivesOn disk keys a b first → LivesOn disk keys b c more → LivesOn disk keys a c (first ++ more)

-- a call that opened nothing, as a run
abbrev pub UnopenedLives : {S : Type 0} → (S → Disk) → Type 0
UnopenedLives {S} disk = (keys : Keys) (old new : S) → LeavesUnopened keys (disk old) (disk new) → LivesOn disk keys old new []

-- A chain of a vault's calls, behind an opening. Where each of them, as the vault's own words tell it, is an act, they are a run, if the
-- last store tells its cells.
abbrev pub ChainsLive : {V S : Type 0} → Kind V → (S → Disk) → Type 0
ChainsLive {V} {S} kind disk = (store : V → S) (sealing : V → Sealing)
    → ((v w : V) (call : VaultCall) (answer : VaultAnswer) (notes : List Note) → kind.called v call answer notes w → (disk (store w)).tells → Answers (disk (store v)) (disk (store w)) (sealing v) (sealing w) answer)
    → (keys : Keys) (old : S) (first last : V) (steps : List (VaultCall × VaultAnswer)) → (disk (store last)).tells → ((disk (store first)).tells → Opens keys (disk old) (disk (store first)) (sealing first))
    → AllCalled kind first steps last → LivesOn disk keys old (store last) (map (λ s. s.1) steps)

-- these calls were answered, each of them, and neither refused nor left in doubt
abbrev pub AllServed : List (VaultCall × VaultAnswer) → Type 0
AllServed [] = Unit {0}
AllServed ((call, Values values) ∷ steps) = AllServed steps
AllServed ((call, Ended) ∷ steps) = AllServed steps
AllServed (_ ∷ steps) = ⊥

-- and of these none was
abbrev pub NoneServed : List (VaultCall × VaultAnswer) → Type 0
NoneServed [] = Unit {0}
NoneServed ((call, RefusedBy fault) ∷ steps) = NoneServed steps
NoneServed ((call, DoubtBy fault) ∷ steps) = NoneServed steps
NoneServed (_ ∷ steps) = ⊥

-- Calls that were answered, and behind them some that weren't: the next seal of that run has the number of the sealer between.
abbrev pub ChainsAreNumbered : {V S : Type 0} → Kind V → (S → Disk) → Type 0
ChainsAreNumbered {V} {S} kind disk = (store : V → S) (sealing : V → Sealing)
    → ((v w : V) (call : VaultCall) (answer : VaultAnswer) (notes : List Note) → kind.called v call answer notes w → (disk (store w)).tells → Answers (disk (store v)) (disk (store w)) (sealing v) (sealing w) answer)
    → (keys : Keys) (old : S) (first mid last : V) (front rest : List (VaultCall × VaultAnswer)) → (disk (store last)).tells → ((disk (store first)).tells → Opens keys (disk old) (disk (store first)) (sealing first))
    → AllCalled kind first front mid → AllServed front → AllCalled kind mid rest last → NoneServed rest → LivesTo disk keys old (store last) (map (λ s. s.1) (front ++ rest)) (sealing mid).next
