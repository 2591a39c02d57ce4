-- A desk may be made for a script's clients behind the epoch that was found, and their runners may call it.
use Rattle.std.proofs.Common.{◌≡◌, ◌∙◌, ◌<◌, ◌≤◌, ◌*◌, ◌^◌, ◌++◌, ℕ, List, [], ◌∷◌, length, take, drop, map, suc, Option, None, Some, arith, subst, sym, ap, refl}
use Rattle.std.proofs.lemmas.List.{append-nil, length-map}
use Rattle.std.specs.List.{All}
use Rattle.std.proofs.lemmas.List.Elements.{All-weaker}
use Rattle.ob_base.specs.declared.params.Params.{Params}
use Rattle.ob_script.specs.Script.{Scripts, AreSound}
use Rattle.ob_runner.specs.declared.runner.ScriptRunner.{ScriptRunner}
use Rattle.ob_runner.specs.RunnerViews.{client_of, bound_of, MayHaveMade}
use Rattle.ob_runner.specs.Runners.{IsNewOf, AreRunners}
use Rattle.ob_desk.specs.Desk.{MayOpen, new_desk, setup_with}
use Rattle.ob_shares.specs.declared.shares.Shares.{Shares}
use Rattle.ob_shares.specs.Shares.{AreFitting}
use Rattle.ob_base.specs.declared.fault.Field.{Field}
use Rattle.ob_base.specs.declared.fault.Field.TheVariants as fields
use Rattle.ob_top.specs.Parts.{IsShareRefused, ShareFits, SharesFit}

some_same : (m n : ℕ) → ◌≡◌ {A = Option ℕ} (Some m) (Some n) → m ≡ n
some_same m n is = cc is

share_fits : (clients places : ℕ) (share : Option ℕ) → ShareFits clients places share → (keys : ℕ) → share ≡ Some keys → clients * keys ≤ places
share_fits clients places None fits keys is = absurd (no_share is)
  where
    no_share : ◌≡◌ {A = Option ℕ} None (Some keys) → ⊥
    no_share same = cc same
share_fits clients places (Some own) fits keys is = subst (λ n. clients * n ≤ places) (some_same own keys is) fits.1

-- a desk may be made with shares that fit
pub shares_fit : (p : Params) (script : Scripts) (shares : Shares) → SharesFit p script shares → AreFitting shares (length script.clients) p.places p.writes
shares_fit p script shares fits = record { reads = share_fits (length script.clients) p.places shares.reads fits.reads; writes = share_fits (length script.clients) p.writes shares.writes fits.writes }

-- and none of them is refused
pub none_refused : (p : Params) (script : Scripts) (shares : Shares) (field : Field) → SharesFit p script shares → IsShareRefused p script shares field → ⊥
none_refused p script shares fields.READS fits refused = refused fits.reads
none_refused p script shares fields.WRITES fits refused = refused.1 fits.writes
none_refused p script shares fields.N fits refused = refused
none_refused p script shares fields.L fits refused = refused
none_refused p script shares fields.Z fits refused = refused
none_refused p script shares fields.S fits refused = refused
none_refused p script shares fields.R fits refused = refused
none_refused p script shares fields.BR fits refused = refused
none_refused p script shares fields.BW fits refused = refused
none_refused p script shares fields.E fits refused = refused
none_refused p script shares fields.T fits refused = refused
none_refused p script shares fields.LANES fits refused = refused
none_refused p script shares fields.COUNT fits refused = refused
none_refused p script shares fields.KEYS fits refused = refused

pub may_open : (p : Params) (shares : Shares) (epoch left : ℕ) (script : Scripts) → epoch < 2 ^ 62 → left ≤ p.batches → AreSound script → AreFitting shares (length script.clients) p.places p.writes → MayOpen (setup_with p shares) (suc epoch) left script.clients
may_open p shares epoch left script small few sound fit = record { few_left = few; low_epoch = omega (arith, small); named = sound.named; rising = sound.rising; fit = fit }

module _ (script : Scripts) (runners : List ScriptRunner) (are : AreRunners script runners) where
  pub none_made : All (λ u. MayHaveMade u []) runners
  none_made = All-weaker (IsNewOf script) (λ u. MayHaveMade u []) (λ u n. n.fits) runners are.new

  pub below_all : (keys : ℕ) → script.keys ≡ keys → All (λ u. bound_of u ≤ keys) runners
  below_all keys same = All-weaker (IsNewOf script) (λ u. bound_of u ≤ keys) (λ u n. let b = n.bound ∙ same in omega (arith, b)) runners are.new

  pub opens_all : (p : Params) (shares : Shares) (epoch left : ℕ) → epoch < 2 ^ 62 → left ≤ p.batches → AreSound script → AreFitting shares (length script.clients) p.places p.writes → MayOpen (setup_with p shares) (suc epoch) left (map client_of runners)
  opens_all p shares epoch left small few sound fit = subst (MayOpen (setup_with p shares) (suc epoch) left) (sym are.clients_are) (may_open p shares epoch left script small few sound fit)

-- a new desk by other names of its epoch, batches and clients
pub new_same : (p : Params) (shares : Shares) (a e l m : ℕ) (xs ys : List ℕ) → a ≡ suc e → l ≡ m → xs ≡ ys → new_desk (setup_with p shares) a l xs ≡ new_desk (setup_with p shares) (suc e) m ys
new_same p shares a e l m xs ys epoch left clients = ap (λ n. new_desk (setup_with p shares) n l xs) epoch ∙ (ap (λ n. new_desk (setup_with p shares) (suc e) n xs) left ∙ ap (new_desk (setup_with p shares) (suc e) m) clients)

-- what was written back over as many items
pub same_items : {A : Type 0} (len : ℕ) (xs ys : List A) → len ≡ length xs → length ys ≡ length xs → take len (ys ++ drop (length ys) xs) ≡ ys
same_items len xs ys is same =
    ap (λ n. take len (ys ++ drop n xs)) same ∙ (ap (λ l. take len (ys ++ l)) (drop_all xs) ∙ (ap (take len) (append-nil ys) ∙ (ap (λ n. take n ys) (is ∙ sym same) ∙ take_all ys)))
  where
    drop_all : {A : Type 0} (l : List A) → drop (length l) l ≡ []
    drop_all [] = refl
    drop_all (x ∷ l) = drop_all l

    take_all : {A : Type 0} (l : List A) → take (length l) l ≡ l
    take_all [] = refl
    take_all (x ∷ l) = ap (λ m. x ∷ m) (take_all l)

pub as_long : {A B : Type 0} (f : A → B) (xs ys : List A) → map f xs ≡ map f ys → length xs ≡ length ys
as_long f xs ys same = sym (length-map xs f) ∙ (ap length same ∙ length-map ys f)
