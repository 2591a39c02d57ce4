-- What is so of a runner that is in a transaction.
use Rattle.std.proofs.Common.{◌≡◌, ◌<◌, ℕ, Bool, true, false, List, [], ◌∷◌, ◌++◌, take, Option, Some, None, refl, ap, subst, ◌∙◌}
use Rattle.std.specs.Prelude.{slice_get, All}
use Rattle.std.proofs.lemmas.Option.{slice_get_within, get_or_from_slice_get}
use Rattle.ob_desk.specs.Desk.{Call, Reply}
use Rattle.ob_desk.specs.declared.calls.Txn.{Txn}
use Rattle.ob_session.specs.declared.runner.Step.TheVariants as stands
use Rattle.ob_session.specs.Clients.{Told, told_of, has_signed_off, was_refused, stands_after}
use Rattle.ob_script.specs.declared.line.Ask.{Ask}
use Rattle.ob_script.specs.declared.line.Ending.TheVariants as ending
use Rattle.ob_runner.specs.declared.place.Place.{Place}
use Rattle.ob_runner.specs.declared.place.Place.TheVariants as place
use Rattle.ob_runner.specs.declared.place.Read.{Read}
use Rattle.ob_script.specs.Script.{ScriptTxn, AreOpsBelow, key_of}
use Rattle.ob_runner.specs.Meaning.{Meets, MeetsFront}
use Rattle.ob_runner.specs.Places.{RunnerState, Fits, at_place, IsCurrent, IsReading, IsPlacedIn, IsAtWork, InTxn, ArePast, IsInScript}
use Rattle.ob_runner.proofs.Meetings.{front_at, front_whole, front_read}

-- Its transaction in the script, and what was told of it, which has this property.
pub record Works (r : RunnerState) (said : List (Call × Reply)) (txn : Txn) (waiting : Option ℕ) (asked : Bool) (P : ScriptTxn → Told → Type 0) : Type 0 where
  pub s : ScriptTxn
  pub t : Told
  pub before : List Told
  pub txn_is : slice_get r.script r.at ≡ Some s
  pub told_is : told_of said ≡ before ++ t ∷ []
  pub past : ArePast (take r.at r.script) before
  pub current : IsCurrent txn waiting asked t
  pub front : MeetsFront s.asks t.ops
  pub named : txn.client ≡ r.client
  pub not_signed : has_signed_off said ≡ false
  pub not_refused : was_refused said ≡ false
  pub holds : P s t

current_as : (y x : Txn) (waiting : Option ℕ) (asked : Bool) (t : Told) → y ≡ x → IsCurrent y waiting asked t → IsCurrent x waiting asked t
current_as y x waiting asked t e current = subst (λ (z : Txn). IsCurrent z waiting asked t) e current

-- where it can make its next call, in the runner's parts
at_work : (client keys : ℕ) (script : List ScriptTxn) (at : ℕ) (p : Place) (said : List (Call × Reply)) (x : Txn)
    → Fits (record { client = client; keys = keys; script = script; at = at; place = p }) said → IsAtWork x p
    → Works (record { client = client; keys = keys; script = script; at = at; place = p }) said x None false (IsPlacedIn p)
at_work client keys script at (place.Next y i) said x fits e = let w = fits.placed in record {
  s = w.txn;
  t = w.one;
  before = fits.before;
  txn_is = w.txn_is;
  told_is = fits.told_is ∙ ap (λ (ts : List Told). fits.before ++ ts) w.told_is;
  past = fits.past;
  current = current_as y x None false w.one e w.placed.0;
  front = front_at w.txn.asks i w.one.ops w.placed.1;
  named = subst (λ (z : Txn). z.client ≡ client) e fits.named;
  not_signed = fits.signed_off;
  not_refused = fits.refused refl;
  holds = w.placed;
}
at_work client keys script at (place.Adding y key sum next) said x fits e = let w = fits.placed in record {
  s = w.txn;
  t = w.one;
  before = fits.before;
  txn_is = w.txn_is;
  told_is = fits.told_is ∙ ap (λ (ts : List Told). fits.before ++ ts) w.told_is;
  past = fits.past;
  current = current_as y x None false w.one e w.placed.0;
  front = front_read w.txn.asks key sum next w.one.ops w.placed.1;
  named = subst (λ (z : Txn). z.client ≡ client) e fits.named;
  not_signed = fits.signed_off;
  not_refused = fits.refused refl;
  holds = w.placed;
}
at_work client keys script at place.Between said x fits e = absurd e
at_work client keys script at (place.Waiting y read) said x fits e = absurd e
at_work client keys script at (place.Asked y) said x fits e = absurd e
at_work client keys script at place.Stopped said x fits e = absurd e
at_work client keys script at place.Over said x fits e = absurd e

with_property : {r : RunnerState} {said : List (Call × Reply)} {x : Txn} {waiting : Option ℕ} {asked : Bool} (P Q : ScriptTxn → Told → Type 0)
    → (w : Works r said x waiting asked P) → Q w.s w.t → Works r said x waiting asked Q
with_property P Q w q = record {
  s = w.s;
  t = w.t;
  before = w.before;
  txn_is = w.txn_is;
  told_is = w.told_is;
  past = w.past;
  current = w.current;
  front = w.front;
  named = w.named;
  not_signed = w.not_signed;
  not_refused = w.not_refused;
  holds = q;
}

-- it can make its next call, and what is so of its transaction is known
pub works : (r : RunnerState) (said : List (Call × Reply)) (x : Txn) (P : ScriptTxn → Told → Type 0) → Fits r said → IsAtWork x r.place → InTxn r P → Works r said x None false P
works r said x P fits at known = let w = at_work r.client r.keys r.script r.at r.place said x fits at in with_property (IsPlacedIn r.place) P w (known w.s w.t w.txn_is w.holds)

-- the place by its equal
pub placed_as : (r : RunnerState) (p : Place) (said : List (Call × Reply)) → r.place ≡ p → Fits r said → Fits (at_place p r) said
placed_as r p said e fits = subst (λ (q : Place). Fits (at_place q r) said) e fits

-- its get isn't answered yet
pub works_waiting : (r : RunnerState) (said : List (Call × Reply)) (x : Txn) (read : Read) → Fits r said → r.place ≡ place.Waiting x read → Works r said x (Some read.key) false (IsReading x (Some read.key) read)
works_waiting r said x read fits e = let f = placed_as r (place.Waiting x read) said e fits in let w = f.placed in record {
  s = w.txn;
  t = w.one;
  before = f.before;
  txn_is = w.txn_is;
  told_is = f.told_is ∙ ap (λ (ts : List Told). f.before ++ ts) w.told_is;
  past = f.past;
  current = w.placed.current;
  front = front_at w.txn.asks w.placed.index w.one.ops w.placed.meets;
  named = f.named;
  not_signed = f.signed_off;
  not_refused = f.refused refl;
  holds = w.placed;
}

abbrev pub IsCommitted : ScriptTxn → Told → Type 0
IsCommitted s t = Meets s.asks t.ops × (s.ending ≡ ending.Commit)

-- it asked to commit
pub works_asked : (r : RunnerState) (said : List (Call × Reply)) (x : Txn) → Fits r said → r.place ≡ place.Asked x → Works r said x None true IsCommitted
works_asked r said x fits e = let f = placed_as r (place.Asked x) said e fits in let w = f.placed in record {
  s = w.txn;
  t = w.one;
  before = f.before;
  txn_is = w.txn_is;
  told_is = f.told_is ∙ ap (λ (ts : List Told). f.before ++ ts) w.told_is;
  past = f.past;
  current = w.placed.0;
  front = front_whole w.txn.asks w.one.ops w.placed.1;
  named = f.named;
  not_signed = f.signed_off;
  not_refused = f.refused refl;
  holds = (w.placed.1, w.placed.2);
}

pub in_script : {x : Txn} {waiting : Option ℕ} {asked : Bool} {P : ScriptTxn → Told → Type 0} (r : RunnerState) (said : List (Call × Reply)) → Works r said x waiting asked P → IsInScript r
in_script r said w = slice_get_within r.script r.at w.s w.txn_is

standing_at : (client keys : ℕ) (script : List ScriptTxn) (at : ℕ) (p : Place) (said : List (Call × Reply)) (x : Txn)
    → Fits (record { client = client; keys = keys; script = script; at = at; place = p }) said → IsAtWork x p → stands_after said ≡ stands.Ran
standing_at client keys script at (place.Next y i) said x fits e = fits.standing
standing_at client keys script at (place.Adding y key sum next) said x fits e = fits.standing
standing_at client keys script at place.Between said x fits e = absurd e
standing_at client keys script at (place.Waiting y read) said x fits e = absurd e
standing_at client keys script at (place.Asked y) said x fits e = absurd e
standing_at client keys script at place.Stopped said x fits e = absurd e
standing_at client keys script at place.Over said x fits e = absurd e

-- its last call was answered
pub ran : (r : RunnerState) (said : List (Call × Reply)) (x : Txn) → Fits r said → IsAtWork x r.place → stands_after said ≡ stands.Ran
ran r said x fits at = standing_at r.client r.keys r.script r.at r.place said x fits at

-- an item of a list that all of
all_at : {A : Type 0} (P : A → Type 0) (xs : List A) (i : ℕ) (x : A) → slice_get xs i ≡ Some x → All P xs → P x
all_at P xs i x is all = subst P (get_or_from_slice_get xs i x x is) (all i x (slice_get_within xs i x is))

-- the keys that it names are below its bound
pub key_below : (keys : ℕ) (script : List ScriptTxn) (at : ℕ) (s : ScriptTxn) (i : ℕ) (a : Ask) → AreOpsBelow keys script → slice_get script at ≡ Some s → slice_get s.asks i ≡ Some a → key_of a < keys
key_below keys script at s i a below txn_is ask_is =
    all_at (λ (b : Ask). key_of b < keys) s.asks i a ask_is (all_at (λ (q : ScriptTxn). All (λ (b : Ask). key_of b < keys) q.asks) script at s txn_is below)
