-- What stands between the rounds of a run, and how a run ends.
use Rattle.std.proofs.Common.{◌≡◌, ◌∙◌, ◌+◌, ℕ, zero, suc, All, List, [], ◌∷◌, ◌++◌, length, map, take, Option, None, Some, refl, sym, ap, ap₂, subst, inl, inr, ⊎_elim, arith, decimal}
use Rattle.std.specs.List.{range_with_len}
use Rattle.std.specs.List.Sorted.{IsStrictlyIncreasing}
use Rattle.std.proofs.lemmas.List.{append-nil, append_assoc, length-append, map-append}
use Rattle.std.proofs.lemmas.List.Elements.{All-append, All-weaker}
use Rattle.std.proofs.lemmas.List.Concat.{flat_map-append}
use Rattle.ob_io.specs.Flows.{appended}
use Rattle.ob_io.specs.Streams.{Flow}
use Rattle.ob_report.specs.Printed.{IsPrinted}
use Rattle.ob_report.specs.Report.{report, record_text}
use Rattle.ob_serial.specs.Serial.{EpochRecord, AreInOrder}
use Rattle.ob_serial.specs.Vaults.{VaultCall, Fetch, End, VaultAnswer, Values, Ended, RefusedBy, DoubtBy}
use Rattle.ob_serial.specs.VaultKinds.{ended_of, ended_by}
use Rattle.ob_desk.specs.Desk as desk
use Rattle.ob_desk.specs.Desk.{DeskState, Setup, Call, Reply, Part, Run, MayOpen, new_desk, published, records_told, record_of}
use Rattle.ob_session.specs.Steps.{Leads, IsOwn}
use Rattle.ob_conduct.specs.Acts.{Act, history, calls, records, desk_calls, vault_calls}
use Rattle.ob_conduct.specs.Records.{AreWritten, AreAnswered, IsWritten, IsCutShort}
use Rattle.ob_conduct.specs.Ready.{IsOrdered, TellsEpochs}
use Rattle.ob_conduct.proofs.Writes.{rising}
use Rattle.ob_store.proofs.Serving.{rose_later}

-- ---- lists of acts

pub history_append : (acts more : List Act) → history (acts ++ more) ≡ history acts ++ history more
history_append acts more = flat_map-append desk_calls acts more

pub calls_append : (acts more : List Act) → calls (acts ++ more) ≡ calls acts ++ calls more
calls_append acts more = flat_map-append vault_calls acts more

pub calls_more : (acts : List Act) (act : Act) → calls (acts ++ act ∷ []) ≡ calls acts ++ vault_calls act
calls_more acts act = calls_append acts (act ∷ []) ∙ ap (λ (x : List (VaultCall × VaultAnswer)). calls acts ++ x) (append-nil (vault_calls act))

pub published_append : (steps more : List (Call × Reply)) → published (steps ++ more) ≡ published steps ++ published more
published_append [] more = refl
published_append (step ∷ steps) more = ap (λ (x : List (EpochRecord ℕ)). records_told step.1 ++ x) (published_append steps more) ∙ sym (append_assoc (records_told step.1) (published steps) (published more))

pub records_append : (acts more : List Act) → records (acts ++ more) ≡ records acts ++ records more
records_append acts more = ap published (history_append acts more) ∙ published_append (history acts) (history more)

pub ended_append : (steps more : List (VaultCall × VaultAnswer)) → ended_of (steps ++ more) ≡ ended_of steps ++ ended_of more
ended_append [] more = refl
ended_append (step ∷ steps) more = ap (λ x. ended_by step ++ x) (ended_append steps more) ∙ sym (append_assoc (ended_by step) (ended_of steps) (ended_of more))

pub answered_join : (steps more : List (VaultCall × VaultAnswer)) → AreAnswered steps → AreAnswered more → AreAnswered (steps ++ more)
answered_join [] more are and = and
answered_join ((Fetch some, Values found) ∷ steps) more are and = answered_join steps more are and
answered_join ((Fetch some, Ended) ∷ steps) more are and = absurd are
answered_join ((Fetch some, RefusedBy fault) ∷ steps) more are and = absurd are
answered_join ((Fetch some, DoubtBy fault) ∷ steps) more are and = absurd are
answered_join ((End writes, Values found) ∷ steps) more are and = absurd are
answered_join ((End writes, Ended) ∷ steps) more are and = answered_join steps more are and
answered_join ((End writes, RefusedBy fault) ∷ steps) more are and = absurd are
answered_join ((End writes, DoubtBy fault) ∷ steps) more are and = absurd are

-- a client's calls publish nothing
pub own_tells : (client : ℕ) (steps : List (Call × Reply)) (d new : DeskState) → All (IsOwn client) steps → Leads d steps new → published steps ≡ []
own_tells client [] d new own leads = refl
own_tells client (step ∷ steps) d new own (mid, may, one, rest) =
    ap₂ (λ (a b : List (EpochRecord ℕ)). a ++ b) (one_tells client d step.0 step.1 mid (own 0 step (omega arith)) one) (own_tells client steps mid new (λ i s lt. own (suc i) s (omega (arith, lt))) rest)
  where
    one_tells : (client : ℕ) (d : DeskState) (call : Call) (reply : Reply) (mid : DeskState) → IsOwn client (call, reply) → desk.DeskStep d call reply mid → records_told reply ≡ []
    one_tells client d (desk.Publish epoch left) reply mid own step = absurd own
    one_tells client d desk.Close reply mid own step = absurd own
    one_tells client d _ (desk.Published told) mid own step = absurd step
    one_tells client d _ _ mid own step = refl

-- ---- records, one behind the other

range_join : (a n m : ℕ) → range_with_len a n ++ range_with_len (a + n) m ≡ range_with_len a (n + m)
range_join a zero m = ap (λ k. range_with_len k m) (let e : a + 0 ≡ a = omega arith in e) ∙ ap (range_with_len a) (let e : m ≡ 0 + m = omega arith in e)
range_join a (suc n) m = ap (λ (x : List ℕ). a ∷ x) (ap (λ k. range_with_len (a + 1) n ++ range_with_len k m) (let e : a + suc n ≡ a + 1 + n = omega arith in e) ∙ range_join (a + 1) n m) ∙ ap (range_with_len a) (let e : suc (n + m) ≡ suc n + m = omega arith in e)

written_join : (ws xs : List (List (ℕ × Option (List ℕ)))) (rs qs : List (EpochRecord ℕ)) → AreWritten ws rs → AreWritten xs qs → AreWritten (ws ++ xs) (rs ++ qs)
written_join [] xs [] qs a b = b
written_join [] xs (r ∷ rs) qs a b = absurd a
written_join (w ∷ ws) xs [] qs a b = absurd a
written_join (w ∷ ws) xs (r ∷ rs) qs (one, a) b = (one, written_join ws xs rs qs a b)

pub tells_join : (a b c : ℕ) (ws xs : List (List (ℕ × Option (List ℕ)))) (rs qs : List (EpochRecord ℕ)) → TellsEpochs a b ws rs → TellsEpochs b c xs qs → TellsEpochs a c (ws ++ xs) (rs ++ qs)
tells_join a b c ws xs rs qs s t = record {
  counted = let i = s.counted in let j = t.counted in let n : length (rs ++ qs) ≡ length rs + length qs = length-append rs qs in omega (arith, i, j, n);
  numbered = map-append (λ (r : EpochRecord ℕ). r.epoch) rs qs
      ∙ ap₂ (λ (x y : List ℕ). x ++ y) s.numbered (t.numbered ∙ ap (λ k. range_with_len k (length qs)) s.counted)
      ∙ range_join a (length rs) (length qs) ∙ ap (range_with_len a) (sym (length-append rs qs));
  ordered = All-append IsOrdered rs qs s.ordered t.ordered;
  written = written_join ws xs rs qs s.written t.written;
}

pub in_order : (a b : ℕ) (ws : List (List (ℕ × Option (List ℕ)))) (rs : List (EpochRecord ℕ)) → TellsEpochs a b ws rs → AreInOrder rs
in_order a b ws rs t = record {
  epochs = subst IsStrictlyIncreasing (sym t.numbered) (rising a (length rs));
  tickets = All-weaker IsOrdered (λ r. IsStrictlyIncreasing (map (λ x. x.ticket) r.txns)) (λ r o. o.tickets) rs t.ordered;
  named = All-weaker IsOrdered (λ r. All (λ x. x.epoch ≡ r.epoch) r.txns) (λ r o. o.named) rs t.ordered;
}

-- ---- texts

appended_twice : (b : Option (List ℕ)) (t u : List ℕ) → appended (appended b t) u ≡ appended b (t ++ u)
appended_twice None t u = refl
appended_twice (Some b) t u = ap Some (append_assoc b t u)

report_append : (rs qs : List (EpochRecord ℕ)) → report decimal (rs ++ qs) ≡ report decimal rs ++ report decimal qs
report_append rs qs = flat_map-append (record_text decimal) rs qs

pub written_then : (rs qs : List (EpochRecord ℕ)) (before mid after : Flow) → IsWritten (report decimal rs) before mid → IsWritten (report decimal qs) mid after → IsWritten (report decimal (rs ++ qs)) before after
written_then rs qs before mid after a b = record {
  bytes = b.bytes ∙ ap (λ (x : Option (List ℕ)). appended x (report decimal qs)) a.bytes ∙ appended_twice before.bytes (report decimal rs) (report decimal qs) ∙ ap (appended before.bytes) (sym (report_append rs qs));
  later = let i = a.later in let j = b.later in omega (arith, i, j);
}

take-append : (xs ys : List ℕ) (n : ℕ) → take (length xs + n) (xs ++ ys) ≡ xs ++ take n ys
take-append [] ys n = ap (λ m. take m ys) (no_more n)
  where
    no_more : (n : ℕ) → length {A = ℕ} [] + n ≡ n
    no_more n = omega arith
take-append (x ∷ xs) ys n = rw (length_suc x xs n) (ap (λ t. x ∷ t) (take-append xs ys n))
  where
    length_suc : (x : ℕ) (xs : List ℕ) (n : ℕ) → length (x ∷ xs) + n ≡ suc (length xs + n)
    length_suc x xs n = omega arith

-- a front of a text, behind a whole one
pub printed_then : (rs qs : List (EpochRecord ℕ)) (before mid after : Flow) → IsWritten (report decimal rs) before mid → IsPrinted mid after (report decimal qs) → IsPrinted before after (report decimal (rs ++ qs))
printed_then rs qs before mid after w p = subst (IsPrinted before after) (sym (report_append rs qs)) (record {
  count = length (report decimal rs) + p.count;
  within = rw length-append (let i = p.within in omega (arith, i));
  written = p.written ∙ ap (λ (b : Option (List ℕ)). appended b (take p.count (report decimal qs))) w.bytes ∙ appended_twice before.bytes (report decimal rs) (take p.count (report decimal qs)) ∙ ap (appended before.bytes) (sym (take-append (report decimal rs) (report decimal qs) p.count));
  whole = ⊎_elim (λ e. inl (ap (λ n. length (report decimal rs) + n) e ∙ sym (length-append (report decimal rs) (report decimal qs)))) (λ r. inr (rose_later before.faults mid.faults after.faults w.later r)) p.whole;
})

-- behind a whole text, a text that was cut short
pub cut_then : (rs qs : List (EpochRecord ℕ)) (before mid after : Flow) → IsWritten (report decimal rs) before mid → IsCutShort qs mid after → IsCutShort (rs ++ qs) before after
cut_then rs qs before mid after w c = record {
  whole = rs ++ c.whole;
  last = c.last;
  told_are = ap (λ (xs : List (EpochRecord ℕ)). rs ++ xs) c.told_are ∙ sym (append_assoc rs c.whole (c.last ∷ []));
  mid = c.mid;
  written = written_then rs c.whole before mid c.mid w c.written;
  printed = c.printed;
  rose = c.rose;
}
