-- A whole history is cut at the driver's last turn.
use Rattle.std.proofs.Common.{◌≡◌, ◌∙◌, ℕ, zero, suc, All, List, [], ◌∷◌, ◌++◌, refl, sym, ap, ap₂, subst, inl, inr, append-nil, append_assoc}
use Rattle.std.proofs.lemmas.List.Elements.{All-nil, All-cons, All-head, All-tail}
use Rattle.ob_serial.specs.Vaults.{VaultCall, VaultAnswer}
use Rattle.ob_desk.specs.Desk.{DeskState}
use Rattle.ob_desk.specs.Beats.{BeatKind}
use Rattle.ob_turn.specs.declared.turn.Entry.{Entry}
use Rattle.ob_turn.specs.History.{LeadsByTurns}
use Rattle.ob_hall.specs.Turns.{IsTurn}
use Rattle.ob_hall.specs.Passes.{Steps, calls_in}
use Rattle.ob_hall.proofs.Chaining.{calls_append}
use Rattle.ob_conduct.specs.Acts.{Act, Says, Halts, Rests, Takes, Delivers, DeliverFails, FetchFails, RestUnwatched, Closes, Publishes, Refuses, Unprinted, Unwatched, history, calls, IsAllowed}
use Rattle.ob_conduct.specs.Moves.{IsSaid}
use Rattle.ob_conduct.proofs.Going.{history_append, calls_append as vault_append}
use Rattle.ob_driver.specs.Turning.{IsOneTurn}
use Rattle.ob_run.specs.Woven.{IsEntryOf, AreWoven}

-- ---- lists

pub not_snoc : {A : Type 0} (ys : List A) (y : A) → [] ≡ ys ++ y ∷ [] → ⊥
not_snoc [] y is = cc is
not_snoc (z ∷ ys) y is = cc is

pub snoc_same : {A : Type 0} (xs ys : List A) (x y : A) → xs ++ x ∷ [] ≡ ys ++ y ∷ [] → (xs ≡ ys) × (x ≡ y)
snoc_same [] [] x y is = (refl, cc is)
snoc_same [] (z ∷ ys) x y is = absurd (not_snoc ys y (cc is))
snoc_same (z ∷ xs) [] x y is = absurd (not_snoc xs x (cc is))
snoc_same (z ∷ xs) (w ∷ ys) x y is =
    let (same, last) = snoc_same xs ys x y (cc is) in
    let head : z ≡ w = cc is in
    (cc (head, same), last)

pub both_none : {A : Type 0} (xs ys : List A) → [] ≡ xs ++ ys → (xs ≡ []) × (ys ≡ [])
both_none [] ys is = (refl, sym is)
both_none (x ∷ xs) ys is = absurd (cc is)

pub front_all : (P : Act → Type 0) (xs ys : List Act) → All P (xs ++ ys) → All P xs
front_all P [] ys all = All-nil P
front_all P (x ∷ xs) ys all = All-cons P x xs (All-head P x (xs ++ ys) all) (front_all P xs ys (All-tail P x (xs ++ ys) all))

pub behind_all : (P : Act → Type 0) (xs ys : List Act) → All P (xs ++ ys) → All P ys
behind_all P [] ys all = all
behind_all P (x ∷ xs) ys all = behind_all P xs ys (All-tail P x (xs ++ ys) all)

-- ---- a turn of the driver's is one act

pub lone_turn : (act x : Act) (xs : List Act) → IsOneTurn (act ∷ x ∷ xs) → ⊥
lone_turn (Says client steps) x xs one = one
lone_turn (Halts fault) x xs one = one
lone_turn (Rests look) x xs one = one
lone_turn (Takes look keys) x xs one = one
lone_turn (Delivers batch) x xs one = one
lone_turn (DeliverFails keys fault) x xs one = one
lone_turn (FetchFails look batches keys fault) x xs one = one
lone_turn (RestUnwatched look batches) x xs one = one
lone_turn (Closes look batches writes) x xs one = one
lone_turn (Publishes writes left told) x xs one = one
lone_turn (Refuses writes refused) x xs one = one
lone_turn Unprinted x xs one = one
lone_turn Unwatched x xs one = one

-- ---- what acts of entries are

-- their calls of the desk are the entries',
entry_history : (clients : List ℕ) (by : ℕ) (steps : Steps) (mine these : List Act) → IsEntryOf clients by steps mine these → history these ≡ steps
entry_history clients zero steps mine these (one, is, same) = ap history same ∙ sym is
entry_history clients (suc i) steps mine these (none, inr (nobody, quiet, same)) = ap history same ∙ sym quiet
entry_history clients (suc i) steps mine these (none, inl (number, named, same)) = ap history same ∙ append-nil steps

pub woven_history : (clients : List ℕ) (entries : List (Entry Steps)) (driven acts : List Act) → AreWoven clients entries driven acts → history acts ≡ calls_in entries
woven_history clients [] driven acts (none, quiet) = ap history quiet
woven_history clients (e ∷ entries) driven acts (mine, more, these, rest, driven_is, acts_are, entry, woven) =
    ap history acts_are ∙ (history_append these rest ∙ (ap₂ (λ (s t : Steps). s ++ t) (entry_history clients e.by (calls_in (e ∷ [])) mine these entry) (woven_history clients entries more rest woven) ∙ sym (calls_append (e ∷ []) entries)))

-- and those of the vault the driver's
entry_calls : (clients : List ℕ) (by : ℕ) (steps : Steps) (mine these : List Act) → IsEntryOf clients by steps mine these → calls these ≡ calls mine
entry_calls clients zero steps mine these (one, is, same) = ap calls same
entry_calls clients (suc i) steps mine these (none, inr (nobody, quiet, same)) = ap calls same ∙ sym (ap calls none)
entry_calls clients (suc i) steps mine these (none, inl (number, named, same)) = ap calls same ∙ sym (ap calls none)

pub woven_calls : (clients : List ℕ) (entries : List (Entry Steps)) (driven acts : List Act) → AreWoven clients entries driven acts → calls acts ≡ calls driven
woven_calls clients [] driven acts (none, quiet) = ap calls quiet ∙ sym (ap calls none)
woven_calls clients (e ∷ entries) driven acts (mine, more, these, rest, driven_is, acts_are, entry, woven) =
    ap calls acts_are ∙ (vault_append these rest ∙ (ap₂ (λ (s t : List (VaultCall × VaultAnswer)). s ++ t) (entry_calls clients e.by (calls_in (e ∷ [])) mine these entry) (woven_calls clients entries more rest woven) ∙ (sym (vault_append mine more) ∙ sym (ap calls driven_is))))

-- where the driver did nothing they are clients'
no_turn : (these : List Act) → these ≡ [] → IsOneTurn these → ⊥
no_turn these none one = subst IsOneTurn none one

entry_said : (beat : BeatKind) (clients : List ℕ) (by : ℕ) (steps : Steps) (mine these : List Act) → IsEntryOf clients by steps mine these → mine ≡ [] → (rest : List Act) → All (IsAllowed beat) (these ++ rest) → (All (IsAllowed beat) rest → All IsSaid rest) → All IsSaid (these ++ rest)
entry_said beat clients zero steps mine these (one, is, same) none rest allowed on = absurd (no_turn mine none one)
entry_said beat clients (suc i) steps mine these (nothing, inr (nobody, quiet, same)) none rest allowed on =
    subst (λ (xs : List Act). All IsSaid (xs ++ rest)) (sym same) (on (behind_all (IsAllowed beat) these rest allowed))
entry_said beat clients (suc i) steps mine these (nothing, inl (number, named, same)) none rest allowed on =
    subst (λ (xs : List Act). All IsSaid (xs ++ rest)) (sym same)
    (let one : All (IsAllowed beat) (Says number steps ∷ rest) = subst (λ (xs : List Act). All (IsAllowed beat) (xs ++ rest)) same allowed in
    All-cons IsSaid (Says number steps) rest (All-head (IsAllowed beat) (Says number steps) rest one) (on (All-tail (IsAllowed beat) (Says number steps) rest one)))

pub all_said : (beat : BeatKind) (clients : List ℕ) (entries : List (Entry Steps)) (driven acts : List Act) → AreWoven clients entries driven acts → driven ≡ [] → All (IsAllowed beat) acts → All IsSaid acts
all_said beat clients [] driven acts (none, quiet) nothing allowed = subst (All IsSaid) (sym quiet) (All-nil IsSaid)
all_said beat clients (e ∷ entries) driven acts (mine, more, these, rest, driven_is, acts_are, entry, woven) nothing allowed =
    let (own, others) = both_none mine more (sym nothing ∙ driven_is) in
    subst (All IsSaid) (sym acts_are) (entry_said beat clients e.by (calls_in (e ∷ [])) mine these entry own rest (subst (All (IsAllowed beat)) acts_are allowed) (λ later. all_said beat clients entries more rest woven others later))

-- ---- the driver's last turn

-- The entries before it, it, and those behind it, which are clients'; and so the acts.
pub record LastTurn (clients : List ℕ) (entries : List (Entry Steps)) (driven acts : List Act) : Type 0 where
  pub before : List (Entry Steps)
  pub turn : Entry Steps
  pub after : List (Entry Steps)
  pub entries_are : entries ≡ before ++ turn ∷ after
  pub earlier : List Act
  pub these : List Act
  pub driven_is : driven ≡ earlier ++ these
  pub front : List Act
  pub behind : List Act
  pub acts_are : acts ≡ front ++ (these ++ behind)
  pub woven : AreWoven clients before earlier front
  pub by : turn.by ≡ zero
  pub one : IsOneTurn these
  pub calls_are : calls_in (turn ∷ []) ≡ history these
  pub rest : AreWoven clients after [] behind

last_here : (clients : List ℕ) (e : Entry Steps) (entries : List (Entry Steps)) (driven acts mine these rest : List Act) (by : ℕ) → e.by ≡ by → driven ≡ mine → acts ≡ these ++ rest → IsEntryOf clients by (calls_in (e ∷ [])) mine these → AreWoven clients
    entries [] rest → (driven ≡ [] → ⊥) → LastTurn clients (e ∷ entries) driven acts
last_here clients e entries driven acts mine these rest zero is driven_is acts_are (one, calls_are, same) woven some = record {
  before = [];
  turn = e;
  after = entries;
  entries_are = refl;
  earlier = [];
  these = mine;
  driven_is = driven_is;
  front = [];
  behind = rest;
  acts_are = acts_are ∙ ap (λ (xs : List Act). xs ++ rest) same;
  woven = (refl, refl);
  by = is;
  one = one;
  calls_are = calls_are;
  rest = woven;
}
last_here clients e entries driven acts mine these rest (suc i) is driven_is acts_are (none, which) woven some = absurd (some (driven_is ∙ none))

last_later : (clients : List ℕ) (e : Entry Steps) (entries : List (Entry Steps)) (driven acts mine more these rest : List Act) → driven ≡ mine ++ more → acts ≡ these ++ rest → IsEntryOf clients e.by (calls_in (e ∷ [])) mine these → LastTurn clients entries
    more rest → LastTurn clients (e ∷ entries) driven acts
last_later clients e entries driven acts mine more these rest driven_is acts_are entry l = record {
  before = e ∷ l.before;
  turn = l.turn;
  after = l.after;
  entries_are = ap (λ (es : List (Entry Steps)). e ∷ es) l.entries_are;
  earlier = mine ++ l.earlier;
  these = l.these;
  driven_is = driven_is ∙ (ap (λ (xs : List Act). mine ++ xs) l.driven_is ∙ sym (append_assoc mine l.earlier l.these));
  front = these ++ l.front;
  behind = l.behind;
  acts_are = acts_are ∙ (ap (λ (xs : List Act). these ++ xs) l.acts_are ∙ sym (append_assoc these l.front (l.these ++ l.behind)));
  woven = (mine, l.earlier, these, l.front, refl, refl, entry, l.woven);
  by = l.by;
  one = l.one;
  calls_are = l.calls_are;
  rest = l.rest;
}

pub last_turn : (clients : List ℕ) (entries : List (Entry Steps)) (driven acts : List Act) → AreWoven clients entries driven acts → (driven ≡ [] → ⊥) → LastTurn clients entries driven acts
last_turn clients [] driven acts (none, quiet) some = absurd (some none)
last_turn clients (e ∷ entries) driven acts (mine, more, these, rest, driven_is, acts_are, entry, woven) some = by more refl (λ others. last_turn clients entries more rest woven others)
  where
    by : (m : List Act) → more ≡ m → ((more ≡ [] → ⊥) → LastTurn clients entries more rest) → LastTurn clients (e ∷ entries) driven acts
    by [] none on = last_here clients e entries driven acts mine these rest e.by refl (driven_is ∙ (ap (λ (xs : List Act). mine ++ xs) none ∙ append-nil mine)) acts_are entry (subst (λ (xs : List Act). AreWoven clients entries xs rest) none woven) some
    by (x ∷ xs) is on = last_later clients e entries driven acts mine more these rest driven_is acts_are entry (on (λ none. cc (none, is)))

-- ---- what the entries lead to

pub turns_split : (x : DeskState) (before after : List (Entry Steps)) (z : DeskState) → LeadsByTurns IsTurn x (before ++ after) z → (y : DeskState) × LeadsByTurns IsTurn x before y × LeadsByTurns IsTurn y after z
turns_split x [] after z leads = (x, refl, leads)
turns_split x (e ∷ before) after z (mid, turn, rest) = let (y, first, last) = turns_split mid before after z rest in (y, (mid, turn, first), last)
