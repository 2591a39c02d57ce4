-- Lists of calls on a vault.
use Rattle.std.specs.Prelude.{ℕ, ◌≡◌, ◌<◌, ◌≤◌, false, List, [], ◌∷◌, map, length, All, Option}
use Rattle.std.specs.List.Sorted.{IsStrictlyIncreasing}
use Rattle.ob_base.specs.declared.params.Params.{Params}
use Rattle.ob_base.specs.declared.value.Write.{Write}
use Rattle.ob_plain_serial.specs.declared.calls.Request.{Request}
use Rattle.ob_plain_serial.specs.declared.calls.Request.TheVariants as request
use Rattle.ob_plain_serial.specs.declared.calls.Reply.{Reply}
use Rattle.ob_plain_serial.specs.declared.calls.Reply.TheVariants as reply
use Rattle.ob_serial.specs.Vaults.{VaultCall, Fetch, End, VaultAnswer, Values, Ended, RefusedBy, DoubtBy, VaultCounts, VaultState, VaultStep, counts_next, AreBelow, AreDistinct}
use Rattle.ob_serial.specs.VaultViews.{writes_of}

abbrev pub call_of : Request → VaultCall
call_of (request.Fetch keys) = Fetch keys.items
call_of (request.End writes) = End (writes_of writes.items)

abbrev pub answer_of : Reply → VaultAnswer
answer_of (reply.Values values) = Values values.items
answer_of reply.Ended = Ended
answer_of (reply.Refused fault) = RefusedBy fault
answer_of (reply.Doubt fault) = DoubtBy fault

-- a batch that a vault serves, which tells this of itself
pub record MayFetch (p : Params) (v : VaultCounts) (asks : List (Option ℕ)) : Type 0 where
  pub serves : v.spent ≡ false
  pub some_left : 0 < v.left
  pub whole : length asks ≡ p.places
  pub keys : AreBelow p.keys asks
  pub distinct : AreDistinct asks

-- writes with which it ends an epoch
pub record MayEnd (p : Params) (v : VaultCounts) (writes : List Write) : Type 0 where
  pub serves : v.spent ≡ false
  pub none_left : v.left ≡ 0
  pub few : length writes ≤ p.writes
  pub rising : IsStrictlyIncreasing (map (λ w. w.key) writes)
  pub keys : All (λ w. w.key < p.keys) writes

abbrev pub MayServe : Params → VaultCounts → Request → Type 0
MayServe p v (request.Fetch keys) = MayFetch p v keys.items
MayServe p v (request.End writes) = MayEnd p v writes.items

-- what a call answers that isn't refused, whatever the values
abbrev pub served : VaultCall → VaultAnswer
served (Fetch keys) = Values []
served (End writes) = Ended

-- Each call is one that a vault takes after those before it, where none of them is refused.
abbrev pub MayServeAll : Params → VaultCounts → List Request → Type 0
MayServeAll p v [] = Unit {0}
MayServeAll p v (one ∷ more) = MayServe p v one × MayServeAll p (counts_next p.batches v (call_of one) (served (call_of one))) more

-- The first calls, so many as there are answers, are answered by a map by epochs.
abbrev pub AnsweredBy : VaultState → List VaultCall → List VaultAnswer → VaultState → Type 0
AnsweredBy v calls [] last = last ≡ v
AnsweredBy v [] (answer ∷ answers) last = ⊥
AnsweredBy v (call ∷ calls) (answer ∷ answers) last = (next : VaultState) × VaultStep v call answer next × AnsweredBy next calls answers last
