use Rattle.lk_command.proofs.GrammarReported.{accepted, refused}
use Rattle.lk_command.proofs.parsing.parse_words.Goals as goal

pub returns-in-Some : goal.returns-in-Some
returns-in-Some c =
    refused c.args.words.now c.in_ok-phrases.phrases.items c.as_slice.result.now c.in-Some.fault c.in_ok-phrases.ensures c.as_slice.ensures.value c.in-Some.ensures

pub returns : goal.returns
returns c =
    accepted c.args.words.now c.in_ok-phrases.phrases.items c.as_slice.result.now c.as_slice-2.result.now c.in_ok-command_of.field-0 c.in_ok-phrases.ensures c.as_slice.ensures.value c.as_slice-2.ensures.value c.in_default.ensures c.in_ok-command_of.ensures
