-- What a status and its details say: the clauses of the call that is told.
use Rattle.std.specs.Prelude.{◌≡◌, ◌≢◌, ℕ, List, Option, None, length}
use Rattle.dsa_plan.specs.Answers.{least_fault, least_height, plan_fault}
use Rattle.dsa_plan.specs.Arrays.{Arrays, instance_of}
use Rattle.dsa_plan.specs.Faults.{arrays_fault}
use Rattle.dsa_plan.specs.Packed.{IsPackAnswer}
use Rattle.dsa_plan.specs.Plans.{IsAnswer, IsLeastAnswer}
use Rattle.dsa_plan.specs.declared.answers.Answer.{Answer}
use Rattle.dsa_plan.specs.declared.answers.Answer.TheVariants as plan_is
use Rattle.dsa_plan.specs.declared.answers.LeastAnswer.{LeastAnswer}
use Rattle.dsa_plan.specs.declared.answers.LeastAnswer.TheVariants as least_is
use Rattle.dsaplan_c.specs.Told.{least_detail, least_status, plan_detail, plan_status}
use Rattle.dsaplan_c.specs.declared.detail.Detail.{Detail}

-- they tell an answer on the capacity, which is right
pub record SaysPlan (a : Arrays) (C : ℕ) (steps : Option ℕ) (old new : List ℕ) (status : ℕ) (detail : Detail) :
    Type 0 where
  pub answer : Answer
  pub status_is : status ≡ plan_status answer
  pub detail_is : detail ≡ plan_detail answer
  pub fault : answer ≢ plan_is.NoMemory → plan_fault answer ≡ arrays_fault a (length old)
  pub value : IsAnswer (instance_of a) C steps new answer
  pub unchanged : answer ≢ plan_is.Fits → new ≡ old

-- they tell an answer on the least capacity, which is right
pub record SaysLeast (a : Arrays) (steps : Option ℕ) (old new : List ℕ) (status : ℕ) (detail : Detail) : Type 0 where
  pub answer : LeastAnswer
  pub status_is : status ≡ least_status answer
  pub detail_is : detail ≡ least_detail answer
  pub fault : answer ≢ least_is.NoMemory → least_fault answer ≡ arrays_fault a (length old)
  pub value : IsLeastAnswer (instance_of a) steps new answer
  pub unchanged : least_height answer ≡ None → new ≡ old

-- they tell what packing answers within so many steps, which is right
pub record SaysPacked (a : Arrays) (steps : ℕ) (old new : List ℕ) (status : ℕ) (detail : Detail) : Type 0 where
  pub answer : LeastAnswer
  pub status_is : status ≡ least_status answer
  pub detail_is : detail ≡ least_detail answer
  pub fault : answer ≢ least_is.NoMemory → least_fault answer ≡ arrays_fault a (length old)
  pub value : IsPackAnswer (instance_of a) steps new answer
  pub unchanged : least_height answer ≡ None → new ≡ old
