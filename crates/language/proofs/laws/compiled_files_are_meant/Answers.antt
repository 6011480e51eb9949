use Rattle.meaning.proofs.Ends.{call_ends, function_ends, top_ends}
use Rattle.language.specs.Language.{language}
use Rattle.language.proofs.laws.compiled_files_are_meant.Goals as goal

pub returns : goal.returns
returns g c = record {
  calls = λ world place. call_ends (language world place);
  functions = λ world place. function_ends (language world place);
  top_levels = λ world place. top_ends (language world place);
}
