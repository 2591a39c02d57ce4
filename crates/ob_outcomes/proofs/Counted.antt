-- Transactions of a lone client that each add 1 to a key have one epoch each, and the map behind them holds how often each key was added to.
use Rattle.std.proofs.Common.{◌≡◌, ℕ, suc, ◌+◌, ◌<◌, ◌≤◌, ◌^◌, ◌==◌, Bool, true, false, if◌then◌else◌, List, [], ◌∷◌, ◌++◌, length, map, take, All, get_or, refl, sym, ap, ◌∙◌, subst, ⊎_elim, arith, nat_cmp, length-append, eqb-true}
use Rattle.std.specs.Prelude.{filter, flat_map}
use Rattle.std.specs.List.{range_with_len}
use Rattle.std.specs.FinMap as finite
use Rattle.std.proofs.lemmas.Bool.{cases_eq, ne_eqb, eq-eqb}
use Rattle.std.proofs.lemmas.List.Elements.{All-head, All-tail, All-cons, All-nil}
use Rattle.ob_serial.specs.Serial.{Map, TxnRecord, EpochRecord, Replays, after_ops, is_committed, committed_of}
use Rattle.ob_serial.specs.declared.records.Outcome.{Outcome}
use Rattle.ob_serial.specs.declared.records.Outcome.TheVariants.{Committed}
use Rattle.ob_desk.specs.Desk.{DeskState, Call, Reply, Run, map_next, new_desk, setup_of}
use Rattle.ob_session.specs.Steps.{Leads}
use Rattle.ob_session.specs.Records.{txns_by}
use Rattle.ob_script.specs.declared.line.Ask.{Ask}
use Rattle.ob_script.specs.Script.{ScriptTxn, Scripts, asks_by}
use Rattle.ob_conduct.specs.Acts.{history, records}
use Rattle.ob_conduct.specs.Records.{after_txns, contents}
use Rattle.ob_outcomes.specs.Served.{ServedFirst, ServedAll, ClientsServed, IsLonely}
use Rattle.ob_outcomes.specs.Lone.{IsTurnedAway, AreLetIn, CommittedIsLast, HasOneCommitted}
use Rattle.ob_outcomes.specs.Sums.{ReadBelow, IsAdder, adds_in, adds_to, count_value, HoldsCounts, LoneCountsUp}
use Rattle.ob_outcomes.proofs.Adders.{advances}
use Rattle.ob_outcomes.proofs.Below.{lone_reads_below}
use Rattle.ob_outcomes.proofs.Lasts.{lone_commits_last}
use Rattle.ob_outcomes.proofs.LetIn.{by_each, lone_is_let_in}
use Rattle.ob_outcomes.proofs.Numbered.{records_are_numbered}

abbrev all_txns : List (EpochRecord ℕ) → List (TxnRecord ℕ)
all_txns told = flat_map (λ r. r.txns) told

abbrev NotAway : TxnRecord ℕ → Type 0
NotAway t = t.ticket ≡ 1 → IsTurnedAway t.outcome → ⊥

-- ---- one epoch

-- It has the next transaction, which is committed, and the map behind it holds the next counts.
record OneMore (m : Map nat_cmp) (before : ℕ → ℕ) (asks : List ScriptTxn) (txns rest : List (TxnRecord ℕ)) : Type 0 where
  pub asked : ScriptTxn
  pub behind : List ScriptTxn
  pub asks_are : asks ≡ asked ∷ behind
  pub adds : IsAdder asked
  pub adders : All IsAdder behind
  pub txn : TxnRecord ℕ
  pub txns_are : txns ≡ txn ∷ []
  pub committed : txn.outcome ≡ Committed
  pub holds : HoldsCounts (after_ops nat_cmp m txn.ops) (λ key. before key + adds_in key asked.asks)
  pub served : ServedFirst behind rest

no_more : {A : Type 0} (xs : List A) → 1 ≡ suc (length xs) → xs ≡ []
no_more [] e = refl
no_more (x ∷ xs) e = absurd (omega (arith, e))

one_more : (m : Map nat_cmp) (before : ℕ → ℕ) (asks : List ScriptTxn) (txns rest : List (TxnRecord ℕ)) → HoldsCounts m before → ((key : ℕ) → before key < 2 ^ 62) → All IsAdder asks → ServedFirst asks (txns ++ rest)
    → All (λ t. IsLonely t.outcome) txns → All NotAway txns → All (λ t. t.outcome ≡ Committed → t.ticket ≡ length txns) txns → map (λ t. t.ticket) txns ≡ range_with_len 1 (length txns) → 0 < length txns
    → All (λ t. Replays nat_cmp m t.ops) txns → OneMore m before asks txns rest
one_more m before asks [] rest holds low adders served lonely away last numbered some reads = absurd (omega (arith, some))
one_more m before [] (t ∷ txns) rest holds low adders served lonely away last numbered some reads = absurd served
one_more m before (asked ∷ asks) (t ∷ txns) rest holds low adders (ends, served) lonely away last numbered some reads =
    let first : t.ticket ≡ 1 = ap (λ ts. get_or ts 0 0) numbered in
    let adder = All-head IsAdder asked asks adders in
    let a = advances m before asked t.ops t.outcome holds low (All-head (λ (t : TxnRecord ℕ). Replays nat_cmp m t.ops) t txns reads) adder ends
    (All-head (λ (t : TxnRecord ℕ). IsLonely t.outcome) t txns lonely) (All-head NotAway t txns away first) in
    let only : 1 ≡ suc (length txns) = sym first ∙ All-head (λ (x : TxnRecord ℕ). x.outcome ≡ Committed → x.ticket ≡ length (t ∷ txns)) t txns last a.committed in
    let none = no_more txns only in
    record {
      asked = asked;
      behind = asks;
      asks_are = refl;
      adds = adder;
      adders = All-tail IsAdder asked asks adders;
      txn = t;
      txns_are = ap (λ xs. t ∷ xs) none;
      committed = a.committed;
      holds = a.holds;
      served = subst (λ xs. ServedFirst asks (xs ++ rest)) none served;
    }

committed_txn : (t : TxnRecord ℕ) → t.outcome ≡ Committed → is_committed t ≡ true
committed_txn t e = ap (λ (o : Outcome ℕ). is_committed (let x : TxnRecord ℕ = record { epoch = t.epoch; ticket = t.ticket; client = t.client; ops = t.ops; outcome = o } in x)) e

contents_first : (m : Map nat_cmp) (r : EpochRecord ℕ) (told : List (EpochRecord ℕ)) (t : TxnRecord ℕ) → r.txns ≡ t ∷ [] → t.outcome ≡ Committed → contents m (r ∷ told) ≡ contents (after_ops nat_cmp m t.ops) told
contents_first m r told t is committed =
    ap (λ txns. after_txns m (filter (λ (x : TxnRecord ℕ). is_committed x) (txns ++ all_txns told))) is
    ∙ ap (λ b. after_txns m (if b then t ∷ committed_of told else committed_of told)) (committed_txn t committed)

-- ---- all of them

record Up (m : Map nat_cmp) (before : ℕ → ℕ) (asks : List ScriptTxn) (told : List (EpochRecord ℕ)) : Type 0 where
  pub one_each : All HasOneCommitted told
  pub counts : HoldsCounts (contents m told) (λ key. before key + adds_to key (take (length told) asks))

-- what is known of each record
record Facts (r : EpochRecord ℕ) : Type 0 where
  pub lonely : All (λ t. IsLonely t.outcome) r.txns
  pub let_in : AreLetIn r
  pub last : CommittedIsLast r
  pub numbered : map (λ t. t.ticket) r.txns ≡ range_with_len 1 (length r.txns)
  pub some : 0 < length r.txns

adds_one : (key : ℕ) (asked : ScriptTxn) → IsAdder asked → adds_in key asked.asks ≤ 1
adds_one key asked adder = subst (λ (l : List Ask). adds_in key l ≤ 1) (sym adder.asks_are) (by (adder.added == key))
  where
    by : (b : Bool) → (if b then 1 else 0) + 0 ≤ 1
    by true = omega arith
    by false = omega arith

counts_up : (m : Map nat_cmp) (before : ℕ → ℕ) (asks : List ScriptTxn) (told : List (EpochRecord ℕ)) → HoldsCounts m before → ((key : ℕ) → before key + length asks < 2 ^ 62) → All IsAdder asks
    → ServedFirst asks (all_txns told) → All Facts told → ReadBelow m told → Up m before asks told
counts_up m before asks [] holds low adders served facts reads = record {
  one_each = All-nil HasOneCommitted;
  counts = λ key. holds key ∙ ap count_value (let same : before key ≡ before key + 0 = omega arith in same);
}
counts_up m before asks (r ∷ told) holds low adders served facts (here, behind) =
    let f = All-head Facts r told facts in
    let o = one_more m before asks r.txns (all_txns told) holds (λ key. let l = low key in omega (arith, l)) adders served f.lonely f.let_in.first f.last f.numbered f.some here in
    let first = contents_first m r [] o.txn o.txns_are o.committed in
    let next : Map nat_cmp = after_ops nat_cmp m o.txn.ops in
    let long : length asks ≡ suc (length o.behind) = ap length o.asks_are in
    let rest = counts_up next (λ key. before key + adds_in key o.asked.asks) o.behind told o.holds (λ key. let l = low key in let one = adds_one key o.asked o.adds in omega (arith, l, one, long)) o.adders o.served
    (All-tail Facts r told facts) (subst (λ (x : Map nat_cmp). ReadBelow x told) first behind) in
    record {
      one_each = All-cons HasOneCommitted r told
          (record {
            one = ap length o.txns_are;
            committed = subst (λ xs. All (λ (t : TxnRecord ℕ). t.outcome ≡ Committed) xs) (sym o.txns_are) (All-cons (λ (t : TxnRecord ℕ). t.outcome ≡ Committed) o.txn [] o.committed (All-nil _));
          })
          rest.one_each;
      counts = λ key.
          ap (λ (x : Map nat_cmp). finite.get x key) (contents_first m r told o.txn o.txns_are o.committed)
          ∙ rest.counts key
          ∙ ap count_value (joined (before key) (adds_in key o.asked.asks) (adds_to key (take (length told) o.behind)))
          ∙ ap (λ l. count_value (before key + adds_to key (take (suc (length told)) l))) (sym o.asks_are);
    }
  where
    joined : (a b c : ℕ) → (a + b) + c ≡ a + (b + c)
    joined a b c = omega arith

-- ---- the script's transactions are the records'

every_ask : (client : ℕ) (asks : List ScriptTxn) → All (λ s. s.client ≡ client) asks → asks_by client asks ≡ asks
every_ask client [] own = refl
every_ask client (s ∷ asks) own =
    ap (λ b. if b then s ∷ asks_by client asks else asks_by client asks) (eq-eqb s.client client (All-head (λ (s : ScriptTxn). s.client ≡ client) s asks own))
    ∙ ap (λ l. s ∷ l) (every_ask client asks (All-tail (λ (s : ScriptTxn). s.client ≡ client) s asks own))

no_ask : (client c : ℕ) (asks : List ScriptTxn) → (c ≡ client → ⊥) → All (λ s. s.client ≡ client) asks → asks_by c asks ≡ []
no_ask client c [] apart own = refl
no_ask client c (s ∷ asks) apart own =
    ap (λ b. if b then s ∷ asks_by c asks else asks_by c asks) (ne_eqb s.client c (λ e. apart (sym e ∙ All-head (λ (s : ScriptTxn). s.client ≡ client) s asks own)))
    ∙ no_ask client c asks apart (All-tail (λ (s : ScriptTxn). s.client ≡ client) s asks own)

every_txn : (client : ℕ) (txns : List (TxnRecord ℕ)) → All (λ t. t.client ≡ client) txns → filter (λ t. t.client == client) txns ≡ txns
every_txn client [] own = refl
every_txn client (t ∷ txns) own =
    ap (λ b. if b then t ∷ filter (λ x. x.client == client) txns else filter (λ x. x.client == client) txns) (eq-eqb t.client client (All-head (λ (t : TxnRecord ℕ). t.client ≡ client) t txns own))
    ∙ ap (λ l. t ∷ l) (every_txn client txns (All-tail (λ (t : TxnRecord ℕ). t.client ≡ client) t txns own))

none_served : (txns : List (TxnRecord ℕ)) → ServedFirst [] txns → txns ≡ []
none_served [] served = refl
none_served (t ∷ txns) served = absurd served

of_client : (c : ℕ) (txns : List (TxnRecord ℕ)) → All (λ t. t.client ≡ c) (filter (λ t. t.client == c) txns)
of_client c [] = All-nil _
of_client c (t ∷ txns) = by (t.client == c) refl (of_client c txns)
  where
    by : (b : Bool) → (t.client == c) ≡ b → All (λ (t : TxnRecord ℕ). t.client ≡ c) (filter (λ t. t.client == c) txns) → All (λ (t : TxnRecord ℕ). t.client ≡ c) (if b then t ∷ filter (λ t. t.client == c) txns else filter (λ t. t.client == c) txns)
    by true is rest = All-cons (λ (t : TxnRecord ℕ). t.client ≡ c) t (filter (λ t. t.client == c) txns) (eqb-true t.client c is) rest
    by false is rest = rest

own_txns : (client : ℕ) (script : Scripts) (told : List (EpochRecord ℕ)) → All (λ s. s.client ≡ client) script.txns → ClientsServed script told → All (λ t. t.client ≡ client) (all_txns told)
own_txns client script told own served = by_each (λ t. t.client ≡ client) (all_txns told) (λ c. ⊎_elim
    (λ same. subst (λ q. All (λ (t : TxnRecord ℕ). t.client ≡ q) (filter (λ t. t.client == c) (all_txns told))) same (of_client c (all_txns told)))
    (λ apart. subst (λ l. All (λ (t : TxnRecord ℕ). t.client ≡ client) l) (sym (none_served (txns_by c told) (subst (λ l. ServedFirst l (txns_by c told)) (no_ask client c script.txns apart own) (served c)))) (All-nil _))
    (cases_eq c client))

-- ---- over a run

leads_of : (m : Map nat_cmp) (d : DeskState) (steps : List (Call × Reply)) (last : Map nat_cmp) (new : DeskState) → Run m d steps last new → Leads d steps new
leads_of m d [] last new run = run.1
leads_of m d (step ∷ steps) last new run = (run.0, run.1, run.2, leads_of (map_next m d step.0) run.0 steps last new run.4)

facts_of : (rs : List (EpochRecord ℕ)) → All (λ r. All (λ t. IsLonely t.outcome) r.txns) rs → All AreLetIn rs → All CommittedIsLast rs → All (λ r. map (λ t. t.ticket) r.txns ≡ range_with_len 1 (length r.txns)) rs → All (λ r. 0 < length r.txns) rs → All Facts rs
facts_of rs lonely let_in last numbered some = λ k d low. record { lonely = lonely k d low; let_in = let_in k d low; last = last k d low; numbered = numbered k d low; some = some k d low }

ones : (told : List (EpochRecord ℕ)) → All HasOneCommitted told → length (all_txns told) ≡ length told
ones [] one = refl
ones (r ∷ told) one =
    let here = (All-head HasOneCommitted r told one).one in
    let rest = ones told (All-tail HasOneCommitted r told one) in
    let is = length-append r.txns (all_txns told) in
    omega (arith, here, rest, is)

as_many : (asks : List ScriptTxn) (txns : List (TxnRecord ℕ)) → ServedAll asks txns → length txns ≡ length asks
as_many [] [] served = refl
as_many (a ∷ asks) (t ∷ txns) (one, served) = ap suc (as_many asks txns served)
as_many [] (t ∷ txns) served = absurd served
as_many (a ∷ asks) [] served = absurd served

whole : {A : Type 0} (xs : List A) → take (length xs) xs ≡ xs
whole [] = refl
whole (x ∷ xs) = ap (λ l. x ∷ l) (whole xs)

pub lone_counts_up : LoneCountsUp
lone_counts_up beat p epoch left client script acts d m last may allowed run adders own few short empty served lonely some = (
  record { one_each = up.one_each; counts = λ key. up.counts key ∙ ap count_value (let same : 0 + adds_to key (take (length told) script.txns) ≡ adds_to key (take (length told) script.txns) = omega arith in same) },
  λ all.
      let many : length told ≡ length script.txns = sym (ones told up.one_each) ∙ ap length (sym its_txns) ∙ as_many (asks_by client script.txns) (txns_by client told) (all client) ∙ ap length its_asks in
      record {
        epochs = many;
        counts = λ key. up.counts key ∙ ap count_value (let same : 0 + adds_to key (take (length told) script.txns) ≡ adds_to key (take (length told) script.txns) = omega arith in same)
            ∙ ap (λ n. count_value (adds_to key (take n script.txns))) many ∙ ap (λ l. count_value (adds_to key l)) (whole script.txns);
      },
)
  where
    told : List (EpochRecord ℕ)
    told = records acts

    its_asks : asks_by client script.txns ≡ script.txns
    its_asks = every_ask client script.txns own

    its_txns : txns_by client told ≡ all_txns told
    its_txns = every_txn client (all_txns told) (own_txns client script told own served)

    leads : Leads (new_desk (setup_of p) epoch left (client ∷ [])) (history acts) d
    leads = leads_of m (new_desk (setup_of p) epoch left (client ∷ [])) (history acts) last d run

    up : Up m (λ key. 0) script.txns told
    up = counts_up m (λ key. 0) script.txns told (λ key. empty key) (λ key. omega (arith, short)) adders
        (subst (ServedFirst script.txns) its_txns (subst (λ l. ServedFirst l (txns_by client told)) its_asks (served client)))
        (facts_of told lonely (lone_is_let_in beat p epoch left client script acts d may few allowed leads served) (lone_commits_last (setup_of p) epoch left client (history acts) d may leads)
        (records_are_numbered (setup_of p) epoch left (client ∷ []) (history acts) d may leads).tickets some)
        (lone_reads_below (setup_of p) epoch left client m last (history acts) d may run)
