use Rattle.std.proofs.Common.{refl}
use Rattle.thes_http.proofs.response.Status.line.Goals as goal

pub returns-in-Fine-clause-text : goal.returns-in-Fine-clause-text
returns-in-Fine-clause-text c = rw c.in-Fine.is refl

pub returns-in-BadRequest-clause-text : goal.returns-in-BadRequest-clause-text
returns-in-BadRequest-clause-text c = rw c.in-BadRequest.is refl

pub returns-in-NotFound-clause-text : goal.returns-in-NotFound-clause-text
returns-in-NotFound-clause-text c = rw c.in-NotFound.is refl

pub returns-in-MethodNotAllowed-clause-text : goal.returns-in-MethodNotAllowed-clause-text
returns-in-MethodNotAllowed-clause-text c = rw c.in-MethodNotAllowed.is refl

pub returns-in-Conflict-clause-text : goal.returns-in-Conflict-clause-text
returns-in-Conflict-clause-text c = rw c.in-Conflict.is refl

pub returns-in-LengthRequired-clause-text : goal.returns-in-LengthRequired-clause-text
returns-in-LengthRequired-clause-text c = rw c.in-LengthRequired.is refl

pub returns-in-PayloadTooLarge-clause-text : goal.returns-in-PayloadTooLarge-clause-text
returns-in-PayloadTooLarge-clause-text c = rw c.in-PayloadTooLarge.is refl

pub returns-in-NotImplemented-clause-text : goal.returns-in-NotImplemented-clause-text
returns-in-NotImplemented-clause-text c = rw c.in-NotImplemented.is refl

pub returns-in-ServiceUnavailable-clause-text : goal.returns-in-ServiceUnavailable-clause-text
returns-in-ServiceUnavailable-clause-text c = rw c.in-ServiceUnavailable.is refl
