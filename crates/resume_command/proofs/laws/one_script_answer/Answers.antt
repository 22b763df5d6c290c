use Rattle.resume_command.proofs.Requests.{one_requests_answer}
use Rattle.resume_command.proofs.laws.one_script_answer.Goals as goal

pub returns : goal.returns
returns c bytes = one_requests_answer bytes
