use Rattle.thes_requests.specs.Requests.{request_of}
use Rattle.thes_requests.proofs.ReadingLemmas.{some_outcome}
use Rattle.thes_requests.proofs.laws.some_reading.Goals as goal

pub returns : goal.returns
returns c = λ bytes. some_outcome (request_of bytes)
