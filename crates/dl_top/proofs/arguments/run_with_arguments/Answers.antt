-- What `run` promises of the words behind the program's name.
use Rattle.dl_top.proofs.Common.{◌≡◌, ◌∙◌, drop, into_iter_items, OutOfMemory}
use Rattle.dl_top.proofs.RunLaws.{moved_nothing}
use Rattle.dl_top.proofs.arguments.run_with_arguments.Goals as goal

pub returns-in_default-clause-ran : goal.returns-in_default-clause-ran
returns-in_default-clause-ran g c = rw c.in-Ok.is (
  OutOfMemory,
  c.from-in_default.ensures ∙ c.code.ensures,
  moved_nothing _ _ _ _ _ _ _ _ _ _ _,
)

pub returns-clause-ran : goal.returns-clause-ran
returns-clause-ran g c =
    let promised = c.run-status.ensures in
    let words : c.as_slice.result.now ≡ drop 1 (into_iter_items c.in-Ok.args) =
    c.as_slice.ensures.value ∙ c.in-Ok-words_behind.ensures in
    rw c.in-Ok.is (
      c.run-status.result,
      c.from-2.ensures ∙ c.code-2.ensures,
      rw (← words) record {
        answer = promised.answer;
        complete = promised.complete;
        formatted = promised.formatted;
        certified = promised.certified;
        verified = promised.verified;
        done = promised.done;
        refused = promised.refused;
        memory = promised.memory;
        usage = promised.usage;
        unread = promised.unread;
        usage_text = promised.usage_text;
        usage_part = promised.usage_part;
        made = promised.made;
        taken = promised.taken;
        reading = promised.reading;
        read_cause = promised.read_cause;
        read_words = promised.read_words;
        read_text = promised.read_text;
        write_cause = promised.write_cause;
      },
    )
