-- A run, one event longer, and the law of the whole.
use Rattle.std.proofs.Common.{◌≡◌, ℕ, List, [], ◌∷◌, ◌++◌, Result, sym, refl, ap, ◌∙◌, subst}
use Rattle.area.specs.Over.{over}
use Rattle.line.specs.Kind.{Kind, GivesBack, DetectsOneBit, InRange}
use Rattle.console.specs.declared.answer.Answer.{Answer}
use Rattle.station.specs.declared.fault.Refusal.{Refusal}
use Rattle.station.specs.declared.identity.Identity.{Identity}
use Rattle.station.specs.Terminal.{State}
use Rattle.history.specs.Trace.{Event, Transition, outcome_of, Leads}
use Rattle.history.specs.Runs.{Ran, RanLawfully}
use Rattle.history.proofs.Lawful.{lawful}

module _ (k : Kind) (id : Identity) where
  pub ran_more : (es es' : List Event) (rs rs' : List (Result Answer Refusal)) (s b t : State) (before area after : List ℕ) (e : Event) (r : Result Answer Refusal)
      → Ran k id es rs s b before area
      → r ≡ (outcome_of k id e b).answer → after ≡ over (outcome_of k id e b).reply area → t ≡ (outcome_of k id e b).after
      → es' ≡ es ++ (e ∷ []) → rs' ≡ rs ++ (r ∷ []) → Ran k id es' rs' s t before after
  ran_more es es' rs rs' s b t before area after e r h a w q ee er = record {
    history = record { event = e; before = b; outcome = outcome_of k id e b } ∷ h.history;
    leads = (h.leads, refl, sym q);
    happened = ap (λ l. l ++ (e ∷ [])) h.happened ∙ sym ee;
    answered = ap (λ l. l ++ ((outcome_of k id e b).answer ∷ [])) h.answered ∙ ap (λ x. rs ++ (x ∷ [])) (sym a) ∙ sym er;
    area = w ∙ ap (over (outcome_of k id e b).reply) h.area;
  }

  leads_after : (s b : State) (past h : List Transition) (t : State) → Leads k id s past b → Leads k id b h t → Leads k id s (h ++ past) t
  leads_after s b past [] t l m = subst (Leads k id s past) m l
  leads_after s b past (x ∷ h) t l m = (leads_after s b past h x.before l m.0, m.1, m.2)

  pub ran_lawfully : GivesBack k → DetectsOneBit k → InRange k → (es : List Event) (rs : List (Result Answer Refusal)) (s t : State) (before after : List ℕ)
      → Ran k id es rs s t before after → RanLawfully k id es rs s t before after
  ran_lawfully back detects range es rs s t before after r = record {
    ran = r;
    law = λ past p. lawful k back detects range id (r.history ++ past) t
        (record { first = p.first; new = p.new; leads = leads_after p.first s past r.history t p.leads r.leads });
  }
