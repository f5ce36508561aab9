-- What the commands promise that print something of an instance.
use Rattle.std.proofs.Common.{◌≡◌, List, Ok, refl, sym, subst, inl, inr}
use Rattle.command_words.specs.Forms.{ReadsInstance}
use Rattle.command_words.specs.Options.{Word}
use Rattle.command_words.specs.Pairs.{Pair, name_in, number_at}
use Rattle.command_words.specs.Requests.{Request, request_of}
use Rattle.command_words.specs.declared.option.OptionName.TheVariants as option
use Rattle.command_words.specs.declared.verb.Verb.{Verb}
use Rattle.command_words.specs.declared.verb.Verb.TheVariants as verb
use Rattle.command_words.specs.declared.role.Role.TheVariants as role
use Rattle.fact_reports.specs.Reporting.{ShowsReport, reporting}
use Rattle.dsa_outside.specs.Seen.{FilesSeen}
use Rattle.run_course.specs.Course.{Comes, Concludes, Outcome}
use Rattle.dsaplan_core.specs.Courses.{course_with}
use Rattle.dsaplan_core.proofs.Promises.{Promises, asked}
use Rattle.dsaplan_core.proofs.Gives.{trial_gives}
use Rattle.dsaplan_core.proofs.Refusals.{opened_promises}

module _ (words : List Word) (old new : FilesSeen) (pairs : List Pair) where
  abbrev r : Verb → Request
  r v = record { verb = v; pairs = pairs }

  -- a command that prints something of its instance alone
  pub reports_promise : (v : Verb) → ReadsInstance v → request_of words ≡ Ok (r v) → (o : Outcome) →
      Comes old new (reporting v (name_in pairs role.Input)) o → Promises words old new (r v) o
  reports_promise v reads is = opened_promises words old new (r v) is reads
      (λ table I. Concludes (ShowsReport v table I))
      (λ table I input o comes. subst (Promises words old new (r v)) (sym comes.1.shown) (
        λ files.
            (tt, tt, (files, inl (asked words old (r v) is table I input, comes.1.report)), tt),
        tt,
      ))

  pub trial_promises : request_of words ≡ Ok (r verb.Trial) → (o : Outcome) →
      Comes old new (course_with verb.Trial pairs) o → Promises words old new (r verb.Trial) o
  trial_promises is = trial_gives old new (Promises words old new (r verb.Trial)) (number_at pairs option.Seed)
      (number_at pairs option.Count) (number_at pairs option.Steps)
      (λ many. (
        λ files.
            (tt, tt, refl, record { pairs = pairs; words_ask = is; its_count = refl; many = many; files = files }),
        tt,
      ))
      (λ few o shows. subst (Promises words old new (r verb.Trial)) (sym shows.shown) (
        λ files. (
          tt,
          tt,
          (
            files,
            inr (inr (record {
              pairs = pairs;
              instance = shows.instance;
              facts = shows.facts;
              verdict = shows.verdict;
              asked = is;
              few = few;
              made = shows.made;
              true_facts = shows.true_facts;
              true_verdict = shows.true_verdict;
              its_text = refl;
            })),
          ),
          tt,
        ),
        tt,
      ))
