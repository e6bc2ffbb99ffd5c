-- No second answer satisfies the promise of `event` or of `start`: it determines the reply and the world afterwards, so the roster and
-- every byte of table, rows, flags and ring. Stated of the predicates that the two contracts cite.
use mathlib.Core.List.{List}
use mathlib.Core.Path.{◌≡◌, sym, ap, ◌∙◌}
use Prim.Native.Nat.{ℕ}
use Rattle.rules.specs.declared.Reply.{Reply}
use Rattle.rules.specs.Answer.{answer_of}
use Rattle.rules.specs.Rules.{World, Done, EventPromise, StartPromise}
use Rattle.rules.specs.declared.Refusal.{Refusal}
use Rattle.rules.specs.declared.RefusedBy.{RefusedBy}
use Rattle.rules.proofs.Apart.{answer_apart, refusal_apart}
use Rattle.rules.proofs.U8FromRefusal.from.Reads.{Learnt as number-promise}
use Rattle.rules.proofs.RefusalFromFault.from.Reads.{Learnt as of-fault-promise}
use Rattle.rules.proofs.ReplyFromRefusal.from.Reads.{Learnt as of-refusal-promise}
use Rattle.rules.proofs.RefusedByFromRefusal.from.Reads.{Learnt as by-refusal-promise}
use Rattle.rules.proofs.RefusedByFromFault.from.Reads.{Learnt as by-fault-promise}
use Rattle.rules.proofs.ReplyFromRefusedBy.from.Reads.{Learnt as of-number-promise}

module _ (after after' : World) (reply reply' : Reply) where
  same_done : (d : Done) → record { answer = answer_of reply; world = after } ≡ d → record { answer = answer_of reply'; world = after' } ≡ d
      → (reply ≡ reply') × (after ≡ after')
  same_done d p q = (
    answer_apart reply reply' (ap (λ (x : Done). x.answer) p ∙ sym (ap (λ (x : Done). x.answer) q)),
    ap (λ (x : Done). x.world) p ∙ sym (ap (λ (x : Done). x.world) q),
  )

  pub event_unique : (bytes : List ℕ) (before : World) → EventPromise bytes before after reply → EventPromise bytes before after' reply'
      → (reply ≡ reply') × (after ≡ after')
  event_unique bytes before p q = same_done _ p q

  pub start_unique : (before : World) → StartPromise before after reply → StartPromise before after' reply' → (reply ≡ reply') × (after ≡ after')
  start_unique before p q = same_done _ p q

-- a refusal's number, the refusal of what is wrong with a record, and the reply that a refusal comes to: of the contracts
pub number_unique : (κs : _) (a : _) (x y : ℕ) (e e' : _) → number-promise κs a x e → number-promise κs a y e' → x ≡ y
number_unique κs a x y e e' p q = p ∙ sym q

pub refusal_of_fault_unique : (κs : _) (a : _) (x y : Refusal) (e e' : _) → of-fault-promise κs a x e → of-fault-promise κs a y e' → x ≡ y
refusal_of_fault_unique κs a x y e e' p q = refusal_apart x y (p ∙ sym q)

pub reply_of_refusal_unique : (κs : _) (a : _) (x y : Reply) (e e' : _) → of-refusal-promise κs a x e → of-refusal-promise κs a y e' → x ≡ y
reply_of_refusal_unique κs a x y e e' p q = p ∙ sym q

-- and what refuses by a number alone
same_number : (x y : RefusedBy) → x.number ≡ y.number → x ≡ y
same_number x y e = λ i. record { number = e i }

pub refused-by_of_refusal_unique : (κs : _) (a : _) (x y : RefusedBy) (e e' : _) → by-refusal-promise κs a x e → by-refusal-promise κs a y e' → x ≡ y
refused-by_of_refusal_unique κs a x y e e' p q = same_number x y (p ∙ sym q)

pub refused-by_of_fault_unique : (κs : _) (a : _) (x y : RefusedBy) (e e' : _) → by-fault-promise κs a x e → by-fault-promise κs a y e' → x ≡ y
refused-by_of_fault_unique κs a x y e e' p q = same_number x y (p ∙ sym q)

pub reply_of_number_unique : (κs : _) (a : _) (x y : Reply) (e e' : _) → of-number-promise κs a x e → of-number-promise κs a y e' → x ≡ y
reply_of_number_unique κs a x y e e' p q = p ∙ sym q
