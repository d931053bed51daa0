mod Learning
