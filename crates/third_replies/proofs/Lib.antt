mod Numbers
mod WorkedReplies
